-- `kind_of` and `size_of` take exactly the tokens that the rules make.
use Rattle.std.proofs.Common.{lt-ltb, sym, ap, ◌∙◌, not-suc-le-zero, eqb→eq, length-drop, take-append-drop, drop-drop}
use Rattle.std.specs.Prelude.{◌≡◌, refl, Bool, true, false, not, ◌||◌, ℕ, ◌+◌, ◌-◌, ◌<◌, min, T, eqb, length, take, drop, get_or}
use Rattle.std.proofs.Math.Bool.{and-false}
use mathlib.Core.List.{List, [], ◌∷◌, ◌++◌}
use native.Mathlib.Omega.{arith}
use Rattle.std.proofs.Math.Seq.{take-append_seam, drop-append_seam}
use Rattle.std.proofs.Math.Facts.{and_yes, eqb_no}
use Rattle.lists.specs.Lists.{all, nonempty}
use Rattle.lists.specs.ListsLaws.{by_test, yes_true, true_yes, no_false}
use Rattle.lists.specs.Run.{run}
use Rattle.lists.specs.RunLaws.{run_all, run_past}
use Rattle.comment.specs.Comment.{comment_len, run_to}
use Rattle.comment.specs.Grammar.{Comment}
use Rattle.comment.proofs.GrammarLaws.{comment_taken, taken_comment}
use Rattle.structured_token.specs.declared.Kind.{Kind}
use Rattle.structured_token.specs.declared.Kind.TheVariants as kind
use Rattle.structured_token.specs.Tokens.{is_white, is_quote, is_plain, string_len, opened_kind, kind_of, size_of, Took}
use Rattle.structured_token.proofs.TokensLaws.{neither_first, neither_second}
use Rattle.structured_token.specs.Grammar.{AfterQuote, NoComment, Token}

-- ---- a quoted string

after_taken : {s more : List ℕ} → AfterQuote s more → min (1 + run_to is_quote false (s ++ more)) (length (s ++ more)) ≡ length s
unfolding run_to
after_taken (AfterQuote.closed {more}) = omega arith
after_taken AfterQuote.unclosed = omega arith
after_taken AfterQuote.backslash = omega arith
after_taken (AfterQuote.plain {b} {s} {more} h a) = rw (neither_first b 34 92 h, neither_second b 34 92 h) (omega (arith, after_taken a))
after_taken (AfterQuote.escaped {b} {s} {more} a) = rw (and-false (eqb b 34)) (omega (arith, after_taken a))

-- a string at the front of every text, after its first quote
record String (text : List ℕ) : Type 0 where
  s : List ℕ
  more : List ℕ
  is : text ≡ s ++ more
  made : AfterQuote s more

after_backslash : (text : List ℕ) → String (drop 1 text) → String (92 ∷ text)
after_backslash [] q = record { s = 92 ∷ []; more = []; is = refl; made = AfterQuote.backslash }
after_backslash (b ∷ text) q = record { s = 92 ∷ b ∷ q.s; more = q.more; is = ap (λ (l : List ℕ). 92 ∷ b ∷ l) q.is; made = AfterQuote.escaped q.made }

string_step : (b : ℕ) (text : List ℕ) → String text → String (drop 1 text) → String (b ∷ text)
string_step b text q r =
    by_test (eqb b 34 || eqb b 92)
    (λ t. by_test (eqb b 34)
    (λ u. record { s = 34 ∷ []; more = text; is = ap (λ c. c ∷ text) (eqb→eq b 34 u); made = AfterQuote.closed })
    (λ u. let e : b ≡ 92 = eqb→eq b 92 (rw (no_false (eqb b 34) u) at t) in rw e (after_backslash text r)))
    (λ t. record { s = b ∷ q.s; more = q.more; is = ap (λ (l : List ℕ). b ∷ l) q.is; made = AfterQuote.plain t q.made })

-- of a text, and of it without its first byte
string_both : (text : List ℕ) → String text × String (drop 1 text)
string_both [] = let none : String [] = record { s = []; more = []; is = refl; made = AfterQuote.unclosed } in (none, none)
string_both (b ∷ text) = let q = string_both text in (string_step b text q.0 q.1, q.0)

-- ---- a parenthesis

pub comment_some : {c : List ℕ} → Comment c → 0 < length c
comment_some (Comment.comment i) = omega arith

-- of a text with no comment at its front none is taken
pub none_taken : (text : List ℕ) → NoComment text → comment_len text ≡ 0
none_taken text h =
    by_test (eqb (comment_len text) 0)
    (λ t. eqb→eq (comment_len text) 0 t)
    (λ t.
    let some = eqb_no {a = comment_len text} {b = 0} t in
    absurd (h (take (comment_len text) text) (drop (comment_len text) text) (taken_comment text (omega arith)) (sym (take-append-drop (comment_len text) text))))

pub taken_none : (text : List ℕ) → comment_len text ≡ 0 → NoComment text
taken_none text z c more i e = not-suc-le-zero {n = 0} (omega (arith, comment_some i, comment_taken i more, ap comment_len e))

-- ---- a run

module _ (f : ℕ → Bool) (d : ℕ) (z : f d ≡ false) where
  stopped : (n : ℕ) (more : List ℕ) → T (not (f (get_or more 0 d))) → n + run f more ≡ n
  unfolding run
  stopped n [] h = omega arith
  stopped n (b ∷ more) h = rw (no_false (f b) h) (omega arith)

  run_whole : (w more : List ℕ) → T (all f w) → T (not (f (get_or more 0 d))) → run f (w ++ more) ≡ length w
  run_whole w more h n = run_past f w more h ∙ stopped (length w) more n

  run_ends : (s : List ℕ) → f (get_or (drop (run f s) s) 0 d) ≡ false
  unfolding run
  run_ends [] = z
  run_ends (b ∷ s) = let ih = run_ends s in by_test (f b) (λ t. rw (yes_true (f b) t) ih) (λ t. let e = no_false (f b) t in rw e e)

-- ---- a token is taken

pub record Taken (comments : Bool) (what : Kind) (t more : List ℕ) : Type 0 where
  pub what_is : kind_of comments (t ++ more) ≡ what
  pub size : size_of what (t ++ more) ≡ length t
  pub some : 0 < length t

pub token_taken : {comments : Bool} {what : Kind} {t more : List ℕ} → Token comments what t more → Taken comments what t more
unfolding kind_of opened_kind size_of string_len
token_taken (Token.comment {more = more} (Comment.comment {c} j)) =
    let i = Comment.comment j in
    let some : 0 < comment_len ((40 ∷ (c ++ (41 ∷ []))) ++ more) = omega (arith, comment_taken i more, comment_some i) in
    record { what_is = rw (lt-ltb 0 (comment_len ((40 ∷ (c ++ (41 ∷ []))) ++ more)) some); size = comment_taken i more; some = comment_some i }
token_taken (Token.quoted {s = s} {more = more} a) = record { what_is = refl; size = omega (arith, after_taken a); some = omega arith }
token_taken (Token.white {w = []} n h e) = absurd n
token_taken (Token.white {w = b ∷ w} {more = more} n h e) = record {
  what_is = rw (yes_true (is_white b) (and_yes (is_white b) (all is_white w) h).0);
  size = run_whole is_white 34 refl (b ∷ w) more h e;
  some = omega arith;
}
token_taken (Token.unclosed {comments = true} {more = more} n) = record { what_is = rw (none_taken (40 ∷ more) (n tt)); size = refl; some = omega arith }
token_taken (Token.unclosed {comments = false} n) = record { what_is = refl; size = refl; some = omega arith }
token_taken Token.semicolon = record { what_is = refl; size = refl; some = omega arith }
token_taken (Token.plain {w = []} n h e) = absurd n
token_taken (Token.plain {w = b ∷ w} {more = more} n h e) = record {
  what_is = rw (yes_true (is_plain b) (and_yes (is_plain b) (all is_plain w) h).0);
  size = run_whole is_plain 34 refl (b ∷ w) more h e;
  some = omega arith;
}

-- ---- and one stands at the front of every text

pub record Found (comments : Bool) (text : List ℕ) : Type 0 where
  pub what : Kind
  pub t : List ℕ
  pub more : List ℕ
  pub is : text ≡ t ++ more
  pub made : Token comments what t more

run_first : (f : ℕ → Bool) (b : ℕ) (s : List ℕ) → T (f b) → T (nonempty (take (run f (b ∷ s)) (b ∷ s)))
unfolding run
run_first f b s t = rw (yes_true (f b) t) tt

found_open : (comments : Bool) (s : List ℕ) → Found comments (40 ∷ s)
found_open false s = record { what = kind.Open; t = 40 ∷ []; more = s; is = refl; made = Token.unclosed (λ t. absurd t) }
found_open true s =
    let n = comment_len (40 ∷ s) in
    by_test (eqb n 0)
    (λ t. record { what = kind.Open; t = 40 ∷ []; more = s; is = refl; made = Token.unclosed (λ u. taken_none (40 ∷ s) (eqb→eq n 0 t)) })
    (λ t.
    let some = eqb_no {a = n} {b = 0} t in
    record { what = kind.Comment; t = take n (40 ∷ s); more = drop n (40 ∷ s); is = sym (take-append-drop n (40 ∷ s)); made = Token.comment (taken_comment (40 ∷ s) (omega arith)) })

found_string : (comments : Bool) (s : List ℕ) → Found comments (34 ∷ s)
found_string comments s =
    let q = (string_both s).0 in
    record { what = kind.Quoted; t = 34 ∷ q.s; more = q.more; is = ap (λ (l : List ℕ). 34 ∷ l) q.is; made = Token.quoted q.made }

pub found : (comments : Bool) (b : ℕ) (s : List ℕ) → Found comments (b ∷ s)
found comments b s =
    by_test (is_plain b)
    (λ t. let n = run is_plain (b ∷ s) in record {
      what = kind.Plain;
      t = take n (b ∷ s);
      more = drop n (b ∷ s);
      is = sym (take-append-drop n (b ∷ s));
      made = Token.plain (run_first is_plain b s t) (run_all is_plain (b ∷ s)) (rw (run_ends is_plain 34 refl (b ∷ s)) tt);
    })
    (λ t. by_test (is_white b)
    (λ u. let n = run is_white (b ∷ s) in record {
      what = kind.White;
      t = take n (b ∷ s);
      more = drop n (b ∷ s);
      is = sym (take-append-drop n (b ∷ s));
      made = Token.white (run_first is_white b s u) (run_all is_white (b ∷ s)) (rw (run_ends is_white 34 refl (b ∷ s)) tt);
    })
    (λ u. by_test (eqb b 34)
    (λ v. rw (eqb→eq b 34 v) (found_string comments s))
    (λ v. by_test (eqb b 59)
    (λ w. rw (eqb→eq b 59 w) (record { what = kind.Semicolon; t = 59 ∷ []; more = s; is = refl; made = Token.semicolon }))
    (λ w. let e : b ≡ 40 = eqb→eq b 40 (last (is_white b) (eqb b 34) (eqb b 40) (eqb b 59) (no_false (is_plain b) t) (no_false (is_white b) u) (no_false (eqb b 34) v) (no_false (eqb b 59) w)) in rw e (found_open comments s)))))
  where
    last : (x y z w : Bool) → not (x || y || z || w) ≡ false → x ≡ false → y ≡ false → w ≡ false → T z
    last x y true w h p q r = tt
    last x y false w h p q r = true_yes false (sym (rw (p, q, r) at h))

-- ---- by position

token_front_lem : (comments : Bool) (s : List ℕ) (what : Kind) (n : ℕ) → 0 < length s → what ≡ kind_of comments s → n ≡ size_of what s → Token comments what (take n s) (drop n s)
token_front_lem comments [] what n h w e = absurd (not-suc-le-zero h)
token_front_lem comments (b ∷ s) what n h w e =
    let f = found comments b s in
    let k = token_taken f.made in
    let same : what ≡ f.what = w ∙ (rw f.is k.what_is) in
    let size : n ≡ length f.t = e ∙ rw (same, f.is) k.size in
    rw (same, size, f.is, take-append_seam f.t f.more, drop-append_seam f.t f.more) f.made

module _ {comments : Bool} {s : List ℕ} {i e : ℕ} {what : Kind} (h : i < length s) (t : Took comments s i what e) where
  later : drop (e - i) (drop i s) ≡ drop e s
  later = let k : i + (e - i) ≡ e = omega (arith, t.some h) in drop-drop (e - i) i s ∙ rw k

  -- a token, and what stands after it
  pub token_there : Token comments what (take (e - i) (drop i s)) (drop e s)
  token_there =
      rw (← later) (token_front_lem comments (drop i s) what (e - i) (rw length-drop (omega arith)) t.what (omega (arith, t.is)))

  pub token_whole : take (e - i) (drop i s) ++ drop e s ≡ drop i s
  token_whole = rw (← later) (take-append-drop (e - i) (drop i s))
