-- `parameter_len` takes exactly the parameters that the rules make; where UTF-8 may be cut.
use borrow.Author.Tests.{lt-ltb, le-ltb}
use Rattle.std.specs.Prelude.{◌≡◌, refl, Bool, true, false, not, cond, ◌&&◌, ◌||◌, List, [], ◌∷◌, ◌++◌, ℕ, zero, suc, ◌+◌, ◌≤◌, ◌<◌, T, length, take, drop, get_or}
use Rattle.std.proofs.Common.{sym, ap, ◌∙◌, ⊎_elim, append-nil, append_assoc, not-suc-le-zero, arith, eqb→eq, lt→ltb, length-append, length-take, take-append-drop}
use Rattle.std.proofs.Math.Bool.{and-false}
use Rattle.std.proofs.Math.Dec.{eqb, ltb}
use Rattle.std.proofs.Math.Seq.{take-append_seam, drop-append_seam, drop-append-add, get_or-append_seam, split_at}
use Rattle.std.proofs.Math.Facts.{and_yes, or_yes, ltb_yes, ltb_no, eqb_no}
use Rattle.lists.specs.Byte.{is_ascii, within}
use Rattle.lists.specs.ByteLaws.{within_high}
use Rattle.lists.specs.Lists.{all, nonempty}
use Rattle.lists.specs.ListsLaws.{by_test, cond_yes, cond_no, yes_true, true_yes, no_false, all_append, all_weaken, some_nonempty}
use Rattle.lists.specs.Run.{run}
use Rattle.lists.specs.RunLaws.{run_all, run_past, run_le}
use Rattle.utf8.specs.Utf8.{utf8}
use Rattle.utf8.specs.Utf8Laws.{utf8_ascii, utf8_right, utf8_cut}
use Rattle.comment.specs.Comment.{run_to}
use Rattle.comment.specs.Grammar.{Comment}
use Rattle.structured_token.specs.declared.Kind.{Kind}
use Rattle.structured_token.specs.declared.Kind.TheVariants as kind
use Rattle.structured_token.specs.Tokens.{is_white, is_quote, is_plain, kind_of}
use Rattle.structured_token.specs.Grammar.{Token}
use Rattle.structured_token.proofs.GrammarLaws.{token_taken, found}
use Rattle.structured_token.proofs.TokensLaws.{neither_first, neither_second}
use Rattle.mime_parameter.specs.Extended.{is_token_byte}
use Rattle.field_parameter.specs.Parameter.{is_value_byte, closed_len, value_len, ends_value, parameter_len, name_of, value_of, is_converted, converted_next}
use Rattle.field_parameter.specs.Grammar.{Closed, ParameterValue, Ends, Parameter, standing, NoParameter}

-- ---- what follows a parameter

-- one of four bytes
white_has : (P : ℕ → Type 0) → P 32 → P 9 → P 13 → P 10 → (b : ℕ) → T (is_white b) → P b
white_has P p q r s b t =
    ⊎_elim
    (λ u. ⊎_elim
    (λ v. ⊎_elim (λ w. rw (eqb→eq b 32 w) p) (λ w. rw (eqb→eq b 9 w) q) (or_yes (eqb b 32) (eqb b 9) v))
    (λ v. rw (eqb→eq b 13 v) r)
    (or_yes (eqb b 32 || eqb b 9) (eqb b 13) u))
    (λ u. rw (eqb→eq b 10 u) s)
    (or_yes (eqb b 32 || eqb b 9 || eqb b 13) (eqb b 10) t)

-- what stands there is the end, or a byte of ASCII that is none of a value
data Stops : List ℕ → Type 0 where
  none : Stops []
  first : {b : ℕ} {more : List ℕ} → is_value_byte b ≡ false → b < 128 → Stops (b ∷ more)

ends_stops : {comments : Bool} {more : List ℕ} → Ends comments more → Stops more
unfolding is_token_byte
ends_stops Ends.end = Stops.none
ends_stops (Ends.white {b} {more} h) =
    white_has (λ b. Stops (b ∷ more)) (Stops.first {b = 32} refl (omega arith)) (Stops.first {b = 9} refl (omega arith)) (Stops.first {b = 13} refl (omega arith)) (Stops.first {b = 10} refl (omega arith)) b h
ends_stops Ends.semicolon = Stops.first {b = 59} refl (omega arith)
ends_stops (Ends.comment more h (Comment.comment i)) = Stops.first {b = 40} refl (omega arith)

ends_kind : {comments : Bool} {more : List ℕ} → Ends comments more → T (ends_value (kind_of comments more))
unfolding kind_of
ends_kind Ends.end = tt
ends_kind {comments} (Ends.white {b} {more} h) = white_has (λ b. T (ends_value (kind_of comments (b ∷ more)))) tt tt tt tt b h
ends_kind Ends.semicolon = tt
ends_kind {comments = true} (Ends.comment more h i) = rw (token_taken (Token.comment {more = more} i)).what_is tt
ends_kind {comments = false} (Ends.comment more h i) = absurd h

token_ends : {comments : Bool} {what : Kind} {t more : List ℕ} → Token comments what t more → T (ends_value what) → Ends comments (t ++ more)
token_ends (Token.comment {more = more} i) e = Ends.comment more tt i
token_ends (Token.quoted a) e = absurd e
token_ends (Token.white {w = []} n h k) e = absurd n
token_ends (Token.white {w = b ∷ w} n h k) e = Ends.white (and_yes (is_white b) (all is_white w) h).0
token_ends (Token.unclosed n) e = absurd e
token_ends Token.semicolon e = Ends.semicolon
token_ends (Token.plain n h k) e = absurd e

kind_ends : (comments : Bool) (more : List ℕ) → T (ends_value (kind_of comments more)) → Ends comments more
kind_ends comments [] e = Ends.end
kind_ends comments (b ∷ more) e =
    let f = found comments b more in
    let same : kind_of comments (b ∷ more) ≡ f.what = rw f.is (token_taken f.made).what_is in
    rw f.is (token_ends f.made (rw same at e))

-- ---- a value is taken

closed_taken : {s : List ℕ} → Closed s → (more : List ℕ) → run_to is_quote false (s ++ more) + 1 ≡ length s
unfolding run_to
closed_taken Closed.quote more = omega arith
closed_taken (Closed.plain {b} {s} h c) more = rw (neither_first b 34 92 h, neither_second b 34 92 h) (omega (arith, closed_taken c more))
closed_taken (Closed.escaped {b} {s} c) more = rw (and-false (eqb b 34)) (omega (arith, closed_taken c more))

quoted_taken : {s : List ℕ} → Closed s → (more : List ℕ) → closed_len (34 ∷ (s ++ more)) ≡ length (34 ∷ s)
unfolding closed_len
quoted_taken {s} c more =
    let n = run_to is_quote false (s ++ more) in
    let size = closed_taken c more in
    rw (lt-ltb (n + 1) (suc (length (s ++ more))) (omega (arith, size, length-append s more))) (omega (arith, size))

bare_taken : (s : List ℕ) {more : List ℕ} → T (all is_value_byte s) → Stops more → run is_value_byte (s ++ more) ≡ length s
unfolding run
bare_taken s h Stops.none = run_past is_value_byte s [] h ∙ omega arith
bare_taken s h (Stops.first {b} {more} e k) = run_past is_value_byte s (b ∷ more) h ∙ rw e (omega arith)

-- a byte of a token is from 33 to 126
token_range : (b : ℕ) → T (is_token_byte b) → T (within 33 126 b)
unfolding is_token_byte
token_range b t = (and_yes (within 33 126 b) (not (within 40 41 b || within 58 64 b || within 91 93 b || eqb b 34 || eqb b 44 || eqb b 47)) t).0

bare_quote : (b : ℕ) → T (is_value_byte b) → eqb b 34 ≡ false
unfolding is_token_byte
bare_quote b t = by_test (eqb b 34) (λ u. absurd (rw (eqb→eq b 34 u) at t)) (λ u. no_false (eqb b 34) u)

value_taken : {value more : List ℕ} → ParameterValue value → Stops more → value_len (value ++ more) ≡ length value
unfolding value_len
value_taken {more = more} (ParameterValue.quoted c) e = quoted_taken c more
value_taken (ParameterValue.bare {s = []} n h) e = absurd n
value_taken (ParameterValue.bare {s = b ∷ s} n h) e = rw (bare_quote b (and_yes (is_value_byte b) (all is_value_byte s) h).0) (bare_taken (b ∷ s) h e)

value_some : {value : List ℕ} → ParameterValue value → 0 < length value
value_some (ParameterValue.quoted c) = omega arith
value_some (ParameterValue.bare {s = []} n h) = absurd n
value_some (ParameterValue.bare {s = b ∷ s} n h) = omega arith

-- ---- and a parameter

name_run_lem : (name rest : List ℕ) → T (all is_token_byte name) → run is_token_byte (name ++ (61 ∷ rest)) ≡ length name
unfolding run is_token_byte
name_run_lem name rest h = run_past is_token_byte name (61 ∷ rest) h ∙ omega arith

module _ (name value : List ℕ) (h : T (all is_token_byte name)) where
  pub name_is : name_of (standing name value) ≡ name
  unfolding name_of
  name_is = rw (name_run_lem name value h) (take-append_seam name (61 ∷ value))

  pub value_is : value_of (standing name value) ≡ value
  unfolding value_of
  value_is = rw (name_run_lem name value h) (drop-append-add name (61 ∷ value) 1)

pub record Taken (comments : Bool) (name value more : List ℕ) : Type 0 where
  pub size : parameter_len comments (standing name value ++ more) ≡ length (standing name value)
  pub some : 0 < length (standing name value)

pub parameter_taken : {comments : Bool} {name value more : List ℕ} → Parameter comments name value more → Taken comments name value more
unfolding parameter_len
parameter_taken {comments} {name} {value} {more} p =
    let rest = value ++ more in
    let same : standing name value ++ more ≡ name ++ (61 ∷ rest) = append_assoc name (61 ∷ value) more in
    let n = name_run_lem name rest p.token in
    let after : drop (length name + 1) (name ++ (61 ∷ rest)) ≡ rest = drop-append-add name (61 ∷ rest) 1 in
    let m = value_taken p.valued (ends_stops p.ends) in
    let ends = yes_true (ends_value (kind_of comments more)) (ends_kind p.ends) in
    let whole = length-append name (61 ∷ value) in
    record {
      size = rw (same, n, lt-ltb 0 (length name) (name_some name p.named), get_or-append_seam name 61 rest 0, after, m, lt-ltb 0 (length value) (value_some p.valued), drop-append_seam value more, ends)
          (omega (arith, whole));
      some = omega (arith, whole);
    }
  where
    name_some : (name : List ℕ) → T (nonempty name) → 0 < length name
    name_some [] h = absurd h
    name_some (b ∷ name) h = omega arith

-- ---- all that is taken is a parameter

-- a string that is closed
abbrev ClosedAt : List ℕ → Type 0
ClosedAt text = run_to is_quote false text < length text → Closed (take (suc (run_to is_quote false text)) text)

string_plain : (b : ℕ) (text : List ℕ) → T (not (eqb b 34 || eqb b 92)) → run_to is_quote false (b ∷ text) ≡ suc (run_to is_quote false text)
unfolding run_to
string_plain b text t = rw (neither_first b 34 92 t, neither_second b 34 92 t)

string_escaped : (b : ℕ) (text : List ℕ) → run_to is_quote false (92 ∷ b ∷ text) ≡ suc (suc (run_to is_quote false text))
unfolding run_to
string_escaped b text = rw (and-false (eqb b 34))

closed_quote : (text : List ℕ) → ClosedAt (34 ∷ text)
unfolding run_to
closed_quote text h = Closed.quote

closed_backslash : ClosedAt (92 ∷ [])
unfolding run_to
closed_backslash h = absurd (not-suc-le-zero {n = 0} (omega arith))

closed_escaped : (text : List ℕ) → ClosedAt (drop 1 text) → ClosedAt (92 ∷ text)
closed_escaped [] r = closed_backslash
closed_escaped (b ∷ text) r = rw (string_escaped b text) (λ h. Closed.escaped (r (omega arith)))

closed_step : (b : ℕ) (text : List ℕ) → ClosedAt text → ClosedAt (drop 1 text) → ClosedAt (b ∷ text)
closed_step b text q r =
    by_test (eqb b 34 || eqb b 92)
    (λ t. by_test (eqb b 34)
    (λ u. rw (eqb→eq b 34 u) (closed_quote text))
    (λ u. let e : b ≡ 92 = eqb→eq b 92 (rw (no_false (eqb b 34) u) at t) in rw e (closed_escaped text r)))
    (λ t. rw (string_plain b text t) (λ h. Closed.plain t (q (omega arith))))

-- of a text, and of it without its first byte
closed_both : (text : List ℕ) → ClosedAt text × ClosedAt (drop 1 text)
closed_both [] = (λ h. absurd (not-suc-le-zero h), λ h. absurd (not-suc-le-zero h))
closed_both (b ∷ text) = let q = closed_both text in (closed_step b text q.0 q.1, q.0)

closed_size : (s : List ℕ) → run_to is_quote false s + 1 < suc (length s) → closed_len (34 ∷ s) ≡ suc (suc (run_to is_quote false s))
unfolding closed_len
closed_size s h = rw (lt-ltb (run_to is_quote false s + 1) (suc (length s)) h) (omega arith)

unclosed_size : (s : List ℕ) → suc (length s) ≤ run_to is_quote false s + 1 → closed_len (34 ∷ s) ≡ 0
unfolding closed_len
unclosed_size s h = rw (le-ltb (run_to is_quote false s + 1) (suc (length s)) h)

quoted_made : (s : List ℕ) → 0 < closed_len (34 ∷ s) → ParameterValue (take (closed_len (34 ∷ s)) (34 ∷ s))
quoted_made s =
    by_test (ltb (run_to is_quote false s + 1) (suc (length s)))
    (λ t.
    let less : run_to is_quote false s + 1 < suc (length s) = ltb_yes t in
    rw (closed_size s less) (λ h. ParameterValue.quoted ((closed_both s).0 (omega arith))))
    (λ t. rw (unclosed_size s (ltb_no t)) (λ h. absurd (not-suc-le-zero h)))

some_taken : (n b : ℕ) (s : List ℕ) → 0 < n → T (nonempty (take n (b ∷ s)))
some_taken zero b s h = absurd (not-suc-le-zero h)
some_taken (suc n) b s h = tt

bare_made : (b : ℕ) (s : List ℕ) → 0 < run is_value_byte (b ∷ s) → ParameterValue (take (run is_value_byte (b ∷ s)) (b ∷ s))
bare_made b s h = ParameterValue.bare (some_taken (run is_value_byte (b ∷ s)) b s h) (run_all is_value_byte (b ∷ s))

value_quoted : (s : List ℕ) → value_len (34 ∷ s) ≡ closed_len (34 ∷ s)
unfolding value_len
value_quoted s = refl

value_bare : (b : ℕ) (s : List ℕ) → eqb b 34 ≡ false → value_len (b ∷ s) ≡ run is_value_byte (b ∷ s)
unfolding value_len
value_bare b s e = rw e

value_none : value_len [] ≡ 0
unfolding value_len run
value_none = refl

value_made : (s : List ℕ) → 0 < value_len s → ParameterValue (take (value_len s) s)
value_made [] = rw value_none (λ h. absurd (not-suc-le-zero h))
value_made (b ∷ s) =
    by_test (eqb b 34)
    (λ t. rw (eqb→eq b 34 t, value_quoted s) (quoted_made s))
    (λ t. rw (value_bare b s (no_false (eqb b 34) t)) (bare_made b s))

pub record FoundParameter (comments : Bool) (s : List ℕ) : Type 0 where
  pub name : List ℕ
  pub value : List ℕ
  pub more : List ℕ
  pub is : s ≡ standing name value ++ more
  pub made : Parameter comments name value more

module _ (comments : Bool) (s : List ℕ) where
  abbrev n : ℕ
  n = run is_token_byte s

  abbrev rest : List ℕ
  rest = drop (run is_token_byte s + 1) s

  found_by : T (ltb 0 n) → T (eqb (get_or s n 0) 61) → T (ltb 0 (value_len rest)) → T (ends_value (kind_of comments (drop (value_len rest) rest))) → FoundParameter comments s
  found_by some mark filled ends =
      let m = value_len rest in
      let inside : n < length s = inside_of s n (eqb→eq (get_or s n 0) 61 mark) in
      let next : suc n ≡ n + 1 = omega arith in
      let first : s ≡ take n s ++ (61 ∷ rest) = rw (next, eqb→eq (get_or s n 0) 61 mark) at (split_at s n 0 inside) in
      let second : rest ≡ take m rest ++ drop m rest = sym (take-append-drop m rest) in
      record {
        name = take n s;
        value = take m rest;
        more = drop m rest;
        is = first ∙ ap (λ (l : List ℕ). take n s ++ (61 ∷ l)) second ∙ sym (append_assoc (take n s) (61 ∷ take m rest) (drop m rest));
        made = record {
          named = some_nonempty (take n s) (omega (arith, ltb_yes {a = 0} {b = n} some, length-take n s));
          token = run_all is_token_byte s;
          valued = value_made rest (ltb_yes {a = 0} {b = m} filled);
          ends = kind_ends comments (drop m rest) ends;
        };
      }
    where
      inside_of : (s : List ℕ) (i : ℕ) → get_or s i 0 ≡ 61 → i < length s
      inside_of [] i e = absurd (let z : ◌≡◌ {A = ℕ} 0 61 = e in omega arith)
      inside_of (b ∷ s) zero e = omega arith
      inside_of (b ∷ s) (suc i) e = omega (arith, inside_of s i e)

  pub found_parameter : 0 < parameter_len comments s → FoundParameter comments s
  unfolding parameter_len
  found_parameter =
      let m = value_len rest in
      let a = ltb 0 n in
      let b = eqb (get_or s n 0) 61 in
      let c = ltb 0 m in
      let d = ends_value (kind_of comments (drop m rest)) in
      by_test (a && b && c && d)
      (λ t h.
      let x = and_yes (a && b && c) d t in
      let y = and_yes (a && b) c x.0 in
      let z = and_yes a b y.0 in
      found_by z.0 z.1 y.1 x.1)
      (λ t. rw (no_false (a && b && c && d) t) (λ h. absurd (not-suc-le-zero h)))

  pub none_found : parameter_len comments s ≡ 0 → NoParameter comments s
  none_found z name value more p e =
      let k = parameter_taken p in
      not-suc-le-zero {n = 0} (omega (arith, k.some, k.size, ap (parameter_len comments) e))

  pub found_none : NoParameter comments s → parameter_len comments s ≡ 0
  found_none absent =
      by_test (eqb (parameter_len comments s) 0)
      (λ t. eqb→eq (parameter_len comments s) 0 t)
      (λ t.
      let some = eqb_no {a = parameter_len comments s} {b = 0} t in
      let f = found_parameter (omega arith) in
      absurd (absent f.name f.value f.more f.made f.is))

pub white_ascii : (b : ℕ) → T (is_white b) → T (is_ascii b)
white_ascii b h = white_has (λ b. T (is_ascii b)) tt tt tt tt b h

-- none starts with white space
pub white_none : (comments : Bool) (b : ℕ) (s : List ℕ) → T (is_white b) → parameter_len comments (b ∷ s) ≡ 0
unfolding parameter_len run is_token_byte
white_none comments b s h = white_has (λ b. parameter_len comments (b ∷ s) ≡ 0) refl refl refl refl b h

-- ---- converted or not

module _ {comments : Bool} {name value more : List ℕ} (p : Parameter comments name value more) where
  pub converted_is : is_converted (standing name value) ≡ not (all is_ascii value)
  unfolding is_converted
  converted_is = rw (value_is name value p.token)

  pub converted_next_lem : T (not (all is_ascii value)) → converted_next comments (standing name value ++ more) ≡ true
  unfolding converted_next
  converted_next_lem c =
      let k = parameter_taken p in
      rw (k.size, lt-ltb 0 (length (standing name value)) k.some, take-append_seam (standing name value) more) (converted_is ∙ yes_true (not (all is_ascii value)) c)

pub record FoundConverted (comments : Bool) (s : List ℕ) : Type 0 where
  pub found : FoundParameter comments s
  pub converted : T (not (all is_ascii found.value))

found_whole : {comments : Bool} {s : List ℕ} (f : FoundParameter comments s) (n : ℕ) → n ≡ parameter_len comments s → take n s ≡ standing f.name f.value
found_whole {comments} {s} f n e =
    let p = standing f.name f.value in
    let size : n ≡ length p = e ∙ ap (parameter_len comments) f.is ∙ (parameter_taken f.made).size in
    ap (λ (k : ℕ). take k s) size ∙ ap (take (length p)) f.is ∙ take-append_seam p f.more

pub next_converted : (comments : Bool) (s : List ℕ) → T (converted_next comments s) → FoundConverted comments s
unfolding converted_next
next_converted comments s t =
    let n = parameter_len comments s in
    let both = and_yes (ltb 0 n) (is_converted (take n s)) t in
    let f = found_parameter comments s (ltb_yes {a = 0} {b = n} both.0) in
    record { found = f; converted = rw (found_whole f n refl, converted_is f.made) at both.1 }

-- ---- where UTF-8 may be cut

pub token_ascii : (name : List ℕ) → T (all is_token_byte name) → T (all is_ascii name)
token_ascii name h = all_weaken is_token_byte is_ascii byte_ascii name h
  where
    byte_ascii : (b : ℕ) → T (is_token_byte b) → T (is_ascii b)
    byte_ascii b t = lt→ltb b 128 (omega (arith, within_high 33 126 b (token_range b t)))

stops_cut : (value : List ℕ) {more : List ℕ} → Stops more → T (utf8 (value ++ more)) → T (utf8 value) × T (utf8 more)
stops_cut value Stops.none u = (rw (append-nil value) at u, utf8_ascii [] tt)
stops_cut value (Stops.first {b} {more} e k) u = utf8_cut value b more k u

-- the value, and what follows the parameter
pub parameter_cut : {comments : Bool} {name value more : List ℕ} → Parameter comments name value more → T (utf8 (standing name value ++ more)) → T (utf8 value) × T (utf8 more)
parameter_cut {name = name} {value} {more} p u =
    let same : standing name value ++ more ≡ (name ++ (61 ∷ [])) ++ (value ++ more) = simp append_assoc in
    let front = all_append is_ascii name (61 ∷ []) (token_ascii name p.token) tt in
    stops_cut value (ends_stops p.ends) (rw (same, utf8_right (name ++ (61 ∷ [])) (value ++ more) (utf8_ascii (name ++ (61 ∷ [])) front)) at u)
