-- Laws of lines by position, as code tests them.
use Rattle.std.specs.Prelude.{◌≡◌, Bool, cond, not, ◌&&◌, ◌||◌, List, [], ◌∷◌, ◌++◌, ℕ, suc, ◌+◌, ◌-◌, ◌≤◌, ◌<◌, T, leb, ltb, eqb, length, take, get_or, Ok, Option, Some, None}
use Rattle.std.proofs.Math.Path.{refl, sym}
use Rattle.std.proofs.Common.{ap, ◌∙◌, add-zero, suc-add, add-one, arith, le→leb, length-drop, length-take, take-append-drop, drop_of_length-le, drop-cons, drop-drop, get_or-drop, get_or-take, take-take, length-take-le, ne_eqb}
use Rattle.std.proofs.Math.Bool.{true, false, and-false, or-false}
use Rattle.std.proofs.Math.Dec.{eqb→eq}
use Rattle.std.proofs.Math.ListN.{drop}
use Rattle.std.proofs.Math.Seq.{take-append-add, drop-append-add}
use Rattle.std.proofs.Math.Facts.{and_yes, yes_and, leb_yes, ltb_no}
use Rattle.lists.specs.Lists.{all}
use Rattle.lists.specs.ListsLaws.{by_test, cond_yes, cond_has, yes_true, true_yes, no_false, all_past, all_weaken}
use Rattle.lists.specs.Byte.{is_ascii, within}
use Rattle.lists.specs.Run.{run}
use Rattle.lists.specs.RunLaws.{run_le, run_all, run_step}
use Rattle.utf8.specs.Utf8.{char_len, is_char, char_at, utf8}
use Rattle.utf8.specs.Utf8Laws.{char_len_some, char_high, utf8_right, utf8_ascii, utf8_char, utf8_of}
use Rattle.utf8.specs.Utf8AtLaws.{whole_char, char_at_some, char_at_within, utf8_stop}
use Rattle.header_line.specs.Lines.{line_byte, name_byte, name_len, named, named_to, continuation, formed_by, well_formed, line_ok, line_ok_to, after_line, lines_of, lines_from, checked_lines, bad_line, LineCheck}
use Rattle.line.specs.Line.{blank, crlf, line_len}
use Rattle.lists.specs.CutByLaws.{cut_nil, cut_front}
use Rattle.line.specs.LineLaws.{crlf_inside, line_front, crlf_front}

-- ---- the text of a line

-- an ASCII byte that a line may hold
unfoldable pub plain : ℕ → Bool
plain b = line_byte b && is_ascii b

-- the next CRLF, and what stands before it
unfoldable pub text_ok : List ℕ → Bool
text_ok h = crlf (drop (line_len h) h) && all line_byte (take (line_len h) h) && utf8 (take (line_len h) h)

line_byte_lem : (b : ℕ) → T (line_byte b) → eqb b 13 ≡ false
unfolding line_byte
line_byte_lem b t = by_test (eqb b 13) (λ u. absurd (rw (eqb→eq b 13 u) at t)) (λ u. no_false (eqb b 13) u)

no_crlf : (b : ℕ) (rest : List ℕ) → eqb b 13 ≡ false → crlf (b ∷ rest) ≡ false
unfolding crlf
no_crlf b rest e = rw e

len_past : (a b : List ℕ) → T (all line_byte a) → line_len (a ++ b) ≡ length a + line_len b
unfolding line_len
len_past [] b h = omega arith
len_past (x ∷ a) b h =
    let both = and_yes (line_byte x) (all line_byte a) h in
    rw (no_crlf x (a ++ b) (line_byte_lem x both.0), len_past a b both.1, suc-add)

text_past : (a b : List ℕ) → T (all line_byte a) → T (utf8 a) → text_ok (a ++ b) ≡ text_ok b
unfolding text_ok
text_past a b h u =
    rw (len_past a b h, drop-append-add a b (line_len b), take-append-add a b (line_len b), all_past line_byte a (take (line_len b) b) h, utf8_right a (take (line_len b) b) u)

-- bytes that belong to the text of the line are passed over
pub record Passed (h : List ℕ) (at i : ℕ) : Type 0 where
  pub up : at ≤ i
  pub inside : i ≤ length h
  pub size : at + line_len (drop at h) ≡ i + line_len (drop i h)
  pub ok : text_ok (drop at h) ≡ text_ok (drop i h)

pub passed_none : {h : List ℕ} {at : ℕ} → at ≤ length h → Passed h at at
passed_none k = record { up = omega arith; inside = k; size = refl; ok = refl }

pub passed_then : {h : List ℕ} {at i j : ℕ} → Passed h at i → Passed h i j → Passed h at j
passed_then p q = record { up = omega (arith, p.up, q.up); inside = q.inside; size = p.size ∙ q.size; ok = p.ok ∙ q.ok }

pub passed_part : (h : List ℕ) (i n : ℕ) → i + n ≤ length h → T (all line_byte (take n (drop i h))) → T (utf8 (take n (drop i h))) → Passed h i (i + n)
passed_part h i n k a u =
    let part = take n (drop i h) in
    let whole : part ++ drop (i + n) h ≡ drop i h = rw (← drop-drop n i h) (take-append-drop n (drop i h)) in
    let size : length part ≡ n = length-take-le n (drop i h) (rw length-drop (omega arith)) in
    let len : line_len (drop i h) ≡ n + line_len (drop (i + n) h) = rw (whole, size) at (len_past part (drop (i + n) h) a) in
    record {
      up = omega arith;
      inside = k;
      size = omega arith;
      ok = rw whole at (text_past part (drop (i + n) h) a u);
    }

plain_line : (b : ℕ) → T (plain b) → T (line_byte b)
unfolding plain
plain_line b t = (and_yes (line_byte b) (is_ascii b) t).0

plain_ascii : (b : ℕ) → T (plain b) → T (is_ascii b)
unfolding plain
plain_ascii b t = (and_yes (line_byte b) (is_ascii b) t).1

pub passed_plain : (h : List ℕ) (i r : ℕ) → i ≤ length h → r ≡ i + run plain (drop i h) → Passed h i r
passed_plain h i r k e =
    let n = run plain (drop i h) in
    let part = take n (drop i h) in
    let fits : i + n ≤ length h = omega (arith, run_le plain (drop i h), length-drop i h) in
    rw e
    (passed_part h i n fits
    (all_weaken plain line_byte plain_line part (run_all plain (drop i h)))
    (utf8_ascii part (all_weaken plain is_ascii plain_ascii part (run_all plain (drop i h)))))

high_line : (b : ℕ) → T (leb 128 b) → T (line_byte b)
unfolding line_byte
high_line b t =
    let k : 128 ≤ b = leb_yes t in
    rw (ne_eqb b 0 (λ e. absurd (omega arith)), ne_eqb b 10 (λ e. absurd (omega arith)), ne_eqb b 13 (λ e. absurd (omega arith))) tt

-- a character that starts past ASCII has no ASCII byte
high_char : (c : List ℕ) → T (is_char c) → 128 ≤ get_or c 0 0 → T (all (leb 128) c)
unfolding is_char
high_char [] t h = tt
high_char (a ∷ []) t h = absurd (omega (arith, leb_yes {a = suc a} {b = 128} t))
high_char (a ∷ b ∷ more) t h = char_high (a ∷ b ∷ more) t (omega arith)

pub passed_char : (h : List ℕ) (i n : ℕ) → i < length h → 128 ≤ get_or h i 0 → n ≡ char_at (drop i h) → Passed h i (i + n)
passed_char h i n k w e =
    let m = char_at (drop i h) in
    let c = take m (drop i h) in
    let fits : i + m ≤ length h = omega (arith, char_at_within (drop i h), length-drop i h) in
    rw e
    (by_test (ltb 0 m)
    (λ t.
    let some : 0 < m = leb_yes t in
    let char = char_at_some (drop i h) some in
    let first : get_or c 0 0 ≡ get_or h i 0 = rw (get_or-take m (drop i h) 0 0 some, get_or-drop i h 0 0, add-zero) in
    passed_part h i m fits (all_weaken (leb 128) line_byte high_line c (high_char c char (rw first w))) (utf8_char c char))
    (λ t. let none : m ≡ 0 = omega (arith, ltb_no {a = 0} {b = m} t) in rw (none, add-zero) (passed_none (omega arith))))

-- ---- where the text stops

crlf_len : (h : List ℕ) → crlf h ≡ true → line_len h ≡ 0
unfolding line_len
crlf_len [] e = refl
crlf_len (b ∷ rest) e = rw e

pub crlf_text : (h : List ℕ) → crlf h ≡ true → text_ok h ≡ true
unfolding text_ok
crlf_text h e = rw (crlf_len h e, e) (yes_true (utf8 []) (utf8_of [] tt))

-- no CRLF stands at the front, so the line has its first byte
len_some : (b : ℕ) (rest : List ℕ) → crlf (b ∷ rest) ≡ false → line_len (b ∷ rest) ≡ suc (line_len rest)
unfolding line_len
len_some b rest e = rw e

no_byte : (b : ℕ) (rest : List ℕ) → crlf (b ∷ rest) ≡ false → line_byte b ≡ false → text_ok (b ∷ rest) ≡ false
unfolding text_ok
no_byte b rest e k = rw (len_some b rest e, k, and-false)

-- a character at the front of a part is one at the front of the whole
part_char : (h : List ℕ) (n : ℕ) → 0 < n → char_at h ≡ 0 → char_at (take n h) ≡ 0
unfolding char_at
part_char h n k e =
    let line = take n h in
    let first : get_or line 0 0 ≡ get_or h 0 0 = get_or-take n h 0 0 k in
    let m = char_len (get_or line 0 0) in
    let same : char_len (get_or h 0 0) ≡ m = ap char_len (sym first) in
    cond_has (λ r. r ≡ 0) (is_char (take m line)) m 0
    (λ t.
    let size : length (take m line) ≡ m = whole_char line m refl t in
    let fits : m ≤ n = omega (arith, length-take m line, length-take n h) in
    let there : T (is_char (take m h)) = rw (take-take m n h fits) at t in
    let none : cond (is_char (take m h)) m 0 ≡ 0 = rw same at e in
    absurd (omega (arith, char_len_some (get_or line 0 0), sym (cond_yes (is_char (take m h)) m 0 there) ∙ none)))
    (λ t. refl)

no_char : (b : ℕ) (rest : List ℕ) → crlf (b ∷ rest) ≡ false → char_at (b ∷ rest) ≡ 0 → text_ok (b ∷ rest) ≡ false
unfolding text_ok
no_char b rest e k =
    let line = b ∷ take (line_len rest) rest in
    let bad : utf8 line ≡ false = utf8_stop line 0 (omega arith) (part_char (b ∷ rest) (suc (line_len rest)) (omega arith) k) in
    rw (len_some b rest e, bad, and-false)

-- the text of the line at `at` stops at r: it is right where a CRLF stands there
pub record TextEnd (h : List ℕ) (at r : ℕ) : Type 0 where
  pub up : at ≤ r
  pub inside : r ≤ length h
  pub ok : text_ok (drop at h) ≡ crlf (drop r h)
  pub size : crlf (drop r h) ≡ true → at + line_len (drop at h) ≡ r

-- nothing more is passed over at i
pub record Stopped (h : List ℕ) (i : ℕ) : Type 0 where
  pub ok : text_ok (drop i h) ≡ crlf (drop i h)

pub text_end_lem : {h : List ℕ} {at r : ℕ} → Passed h at r → Stopped h r → TextEnd h at r
text_end_lem {h} {at} {r} p s = record {
  up = p.up;
  inside = p.inside;
  ok = p.ok ∙ s.ok;
  size = λ e. omega (arith, p.size, crlf_len (drop r h) e);
}

nil_stop : text_ok [] ≡ crlf []
unfolding text_ok line_len crlf
nil_stop = refl

stop_by_lem : (h : List ℕ) → (crlf h ≡ false → text_ok h ≡ false) → text_ok h ≡ crlf h
stop_by_lem h f =
    by_test (crlf h)
    (λ t. let e = yes_true (crlf h) t in crlf_text h e ∙ sym e)
    (λ t. let e = no_false (crlf h) t in f e ∙ sym e)

module _ (h : List ℕ) (i : ℕ) where
  pub stopped_end : length h ≤ i → Stopped h i
  stopped_end k = record { ok = rw (drop_of_length-le h {i = i} k) nil_stop }

  pub stopped_byte : i < length h → get_or h i 0 < 128 → plain (get_or h i 0) ≡ false → Stopped h i
  unfolding plain
  stopped_byte k low e =
      let bad : line_byte (get_or h i 0) ≡ false = only (line_byte (get_or h i 0)) (is_ascii (get_or h i 0)) (lt_true (get_or h i 0) low) e in
      record { ok = rw (drop-cons h i 0 k) (stop_by_lem (get_or h i 0 ∷ drop (suc i) h) (λ n. no_byte (get_or h i 0) (drop (suc i) h) n bad)) }
    where
      only : (a b : Bool) → b ≡ true → a && b ≡ false → a ≡ false
      only true b p q = sym p ∙ q
      only false b p q = refl

      lt_true : (b : ℕ) → b < 128 → is_ascii b ≡ true
      lt_true b l = yes_true (is_ascii b) (le→leb (suc b) 128 l)

  pub stopped_char : i < length h → char_at (drop i h) ≡ 0 → Stopped h i
  stopped_char k e =
      let front = drop-cons h i 0 k in
      record { ok = rw front (stop_by_lem (get_or h i 0 ∷ drop (suc i) h) (λ n. no_char (get_or h i 0) (drop (suc i) h) n (rw front at e))) }

-- a step of code at i: to a place further on, or none where the text stops
abbrev pub Step : List ℕ → ℕ → Option ℕ → Type 0
Step h i None = Stopped h i
Step h i (Some r) = Passed h i r × (i < r)

module _ (h : List ℕ) (i : ℕ) (k : i < length h) where
  pub step_plain : (r : ℕ) → plain (get_or h i 0) ≡ true → r ≡ i + run plain (drop i h) → Passed h i r × (i < r)
  step_plain r t e = (passed_plain h i r (omega arith) e, omega (arith, e, run_step plain h i k t))

  pub step_one : plain (get_or h i 0) ≡ true → Passed h i (i + 1) × (i < i + 1)
  step_one e =
      let b = get_or h i 0 in
      let t = true_yes (plain b) e in
      let front : take 1 (drop i h) ≡ b ∷ [] = rw (drop-cons h i 0 k) in
      (passed_part h i 1 (omega arith) (rw front (yes_and (line_byte b) true (plain_line b t) tt)) (rw front (utf8_ascii (b ∷ []) (yes_and (is_ascii b) true (plain_ascii b t) tt))), omega arith)

  pub step_char : (n : ℕ) → 128 ≤ get_or h i 0 → 0 < n → n ≡ char_at (drop i h) → Passed h i (i + n) × (i < i + n)
  step_char n w some e = (passed_char h i n k w e, omega arith)

-- ---- the line at a place

-- the length of a line, and how it starts
unfoldable pub shaped_to : ℕ → Bool → List ℕ → Bool
shaped_to limit first line = within 1 998 (length line) && (continuation first line || named_to limit line)

regroup : (a b c d e : Bool) → a && (b && c && d && e) ≡ (a && c && d) && (b && e)
regroup true true c d e = refl
regroup true false c d e = sym (and-false (c && d))
regroup false b c d e = refl

line_ok_lem : (limit : ℕ) (first : Bool) (h : List ℕ) → line_ok_to limit first h ≡ text_ok h && shaped_to limit first (take (line_len h) h)
unfolding line_ok_to text_ok shaped_to
line_ok_lem limit first h =
    let line = take (line_len h) h in
    regroup (crlf (drop (line_len h) h)) (within 1 998 (length line)) (all line_byte line) (utf8 line) (continuation first line || named_to limit line)

-- the line at `at` is well formed, and r is the place after it
pub record GoodLine (limit : ℕ) (h : List ℕ) (at : ℕ) (first : Bool) (r : ℕ) : Type 0 where
  pub good : line_ok_to limit first (drop at h) ≡ true
  pub after : r ≡ at + (line_len (drop at h) + 2)
  pub inside : r ≤ length h

line_is : {h : List ℕ} {at e : ℕ} → TextEnd h at e → crlf (drop e h) ≡ true → take (line_len (drop at h)) (drop at h) ≡ take (e - at) (drop at h)
line_is {h} {at} {e} t y = let n : line_len (drop at h) ≡ e - at = omega (arith, t.size y) in rw n

module _ (limit : ℕ) {h : List ℕ} {at e : ℕ} (first : Bool) (t : TextEnd h at e) where
  pub lined_text : crlf (drop e h) ≡ false → line_ok_to limit first (drop at h) ≡ false
  lined_text n = line_ok_lem limit first (drop at h) ∙ rw (t.ok ∙ n)

  pub lined_shape : crlf (drop e h) ≡ true → shaped_to limit first (take (e - at) (drop at h)) ≡ false → line_ok_to limit first (drop at h) ≡ false
  lined_shape y n = line_ok_lem limit first (drop at h) ∙ rw (line_is t y, n, and-false)

  pub lined_good : crlf (drop e h) ≡ true → shaped_to limit first (take (e - at) (drop at h)) ≡ true → GoodLine limit h at first (e + 2)
  lined_good y s = record {
    good = line_ok_lem limit first (drop at h) ∙ rw (line_is t y, s, t.ok ∙ y);
    after = omega (arith, t.size y);
    inside = crlf_inside h e y;
  }

-- ---- how a line starts

blank_name : (b : ℕ) → blank b ≡ true → name_byte b ≡ false
unfolding blank name_byte
blank_name b e =
    by_test (eqb b 32) (λ t. rw (eqb→eq b 32 t))
    (λ t. by_test (eqb b 9) (λ u. rw (eqb→eq b 9 u)) (λ u. absurd (rw (no_false (eqb b 32) t, no_false (eqb b 9) u) at (true_yes (eqb b 32 || eqb b 9) e))))

blank_line : (limit : ℕ) (line : List ℕ) → blank (get_or line 0 0) ≡ true → named_to limit line ≡ false
unfolding name_len run
blank_line limit [] e = refl
blank_line limit (b ∷ rest) e = rw (blank_name b e)

pub start_blank : (limit : ℕ) (first : Bool) (line : List ℕ) → blank (get_or line 0 0) ≡ true → not first ≡ continuation first line || named_to limit line
unfolding continuation
start_blank limit first line e = rw (blank_line limit line e, e, or-false)

pub start_name : (limit : ℕ) (first : Bool) (line : List ℕ) → blank (get_or line 0 0) ≡ false → named_to limit line ≡ continuation first line || named_to limit line
unfolding continuation
start_name limit first line e = rw e

-- as code makes them
pub named_by : (limit : ℕ) (line : List ℕ) (n b : ℕ) → n ≡ name_len line → b ≡ get_or line n 0 → within 1 limit n && eqb b 58 ≡ named_to limit line
named_by limit line n b e k = rw (k, e)

module _ (limit : ℕ) (first : Bool) (line : List ℕ) where
  pub shaped_by : (start : Bool) → within 1 998 (length line) ≡ true → start ≡ (continuation first line || named_to limit line) → start ≡ shaped_to limit first line
  unfolding shaped_to
  shaped_by start e k = rw e k

  pub unshaped : within 1 998 (length line) ≡ false → false ≡ shaped_to limit first line
  unfolding shaped_to
  unshaped e = rw e

-- the place after a line, as code answers it
module _ (limit : ℕ) (h : List ℕ) (at : ℕ) (first : Bool) where
  pub no_line : line_ok_to limit first (drop at h) ≡ false → None ≡ after_line limit first h at
  unfolding after_line
  no_line e = rw e

  pub some_line : {r : ℕ} → GoodLine limit h at first r → Some r ≡ after_line limit first h at
  unfolding after_line
  some_line g = rw (g.good, g.after)

  pub line_past : length h ≤ at → None ≡ after_line limit first h at
  unfolding after_line line_ok_to crlf line_len
  line_past k = rw (drop_of_length-le h {i = at} k) refl

  pub line_bad : None ≡ after_line limit first h at → line_ok_to limit first (drop at h) ≡ false
  unfolding after_line
  line_bad e =
      by_test (line_ok_to limit first (drop at h))
      (λ t. let z : None ≡ Some (at + (line_len (drop at h) + 2)) = rw (yes_true (line_ok_to limit first (drop at h)) t) at e in cc)
      (λ t. no_false (line_ok_to limit first (drop at h)) t)

  pub line_good : {r : ℕ} → Some r ≡ after_line limit first h at → GoodLine limit h at first r
  unfolding after_line line_ok_to
  line_good {r} e =
      let m = line_len (drop at h) in
      by_test (line_ok_to limit first (drop at h))
      (λ t.
      let same : Some r ≡ Some (at + (m + 2)) = rw (yes_true (line_ok_to limit first (drop at h)) t) at e in
      let to : r ≡ at + (m + 2) = cc in
      let ends = crlf_inside (drop at h) m (yes_true (crlf (drop m (drop at h))) (and_yes (crlf (drop m (drop at h))) (formed_by (named_to limit) first (take m (drop at h))) t).0) in
      record { good = yes_true (line_ok_to limit first (drop at h)) t; after = to; inside = omega (arith, ends, length-drop at h) })
      (λ t. let z : Some r ≡ None = rw (no_false (line_ok_to limit first (drop at h)) t) at e in cc)

-- the names of 76 bytes
ok_76 : (first : Bool) (h : List ℕ) → line_ok_to 76 first h ≡ line_ok first h
unfolding line_ok_to line_ok well_formed named
ok_76 first h = refl

-- ---- line after line

-- the lines of what is left of a header, where line n starts at the byte `at`
abbrev pub lines_at : ℕ → ℕ → List ℕ → LineCheck
lines_at n at h = lines_from n at (lines_of h)

pub lines_none : (n at : ℕ) → lines_at n at [] ≡ Ok tt
unfolding lines_of lines_from
lines_none n at = rw (cut_nil (λ rest. line_len rest + 2))

-- a line is cut off with its CRLF
ok_front : (first : Bool) (h : List ℕ) → line_ok first (take (line_len h + 2) h) ≡ line_ok first h
unfolding line_ok
ok_front first h = rw (line_front h, crlf_front h, take-take (line_len h) (line_len h + 2) h (omega arith))

pub ok_front_to : (limit : ℕ) (first : Bool) (h : List ℕ) → line_ok_to limit first (take (line_len h + 2) h) ≡ line_ok_to limit first h
unfolding line_ok_to
ok_front_to limit first h = rw (line_front h, crlf_front h, take-take (line_len h) (line_len h + 2) h (omega arith))

lines_front : (n at : ℕ) (xs : List ℕ) → 0 < length xs
    → lines_at n at xs ≡ lines_from n at (take (line_len xs + 2) xs ∷ lines_of (drop (line_len xs + 2) xs))
unfolding lines_of
lines_front n at xs h = ap (lines_from n at) (cut_front (λ rest. line_len rest + 2) xs h (omega arith))

ended : (first : Bool) (h : List ℕ) → line_ok first h ≡ true → line_len h + 2 ≤ length h
unfolding line_ok
ended first h e =
    let m = line_len h in
    crlf_inside h m (yes_true (crlf (drop m h)) (and_yes (crlf (drop m h)) (well_formed first (take m h)) (true_yes (line_ok first h) e)).0)

pub front_good : (n at : ℕ) (xs : List ℕ) → 0 < length xs → line_ok (eqb n 0) xs ≡ true
    → lines_at n at xs ≡ lines_at (n + 1) (at + (line_len xs + 2)) (drop (line_len xs + 2) xs)
unfolding lines_from
front_good n at xs h e =
    lines_front n at xs h
    ∙ rw (ok_front (eqb n 0) xs, e, length-take-le (line_len xs + 2) xs (ended (eqb n 0) xs e), add-one)

pub front_bad : (n at : ℕ) (xs : List ℕ) → 0 < length xs → line_ok (eqb n 0) xs ≡ false → lines_at n at xs ≡ bad_line n at
unfolding lines_from
front_bad n at xs h e = lines_front n at xs h ∙ rw (ok_front (eqb n 0) xs, e)

-- what is left to check at `at`, where line n starts
pub record Left (h : List ℕ) (n at : ℕ) : Type 0 where
  pub count : n ≤ at
  pub same : checked_lines h ≡ lines_at n at (drop at h)

pub left_all : (h : List ℕ) → Left h 0 0
unfolding checked_lines
left_all h = record { count = omega arith; same = refl }

pub left_end : {h : List ℕ} {n at : ℕ} → Left h n at → length h ≤ at → Ok tt ≡ checked_lines h
left_end {h} {n} {at} l k = sym (l.same ∙ rw (drop_of_length-le h {i = at} k) (lines_none n at))

module _ {h : List ℕ} {n at : ℕ} (l : Left h n at) where
  pub left_bad : at < length h → line_ok_to 76 (eqb n 0) (drop at h) ≡ false → bad_line n at ≡ checked_lines h
  left_bad k e = sym (l.same ∙ front_bad n at (drop at h) (rw length-drop (omega arith)) (sym (ok_76 (eqb n 0) (drop at h)) ∙ e))

  pub left_next : {r : ℕ} → at < length h → GoodLine 76 h at (eqb n 0) r → Left h (n + 1) r
  left_next {r} k d =
      let p : at + (line_len (drop at h) + 2) ≡ r = sym d.after in
      record {
        count = omega (arith, l.count, d.after);
        same = l.same ∙ front_good n at (drop at h) (rw length-drop (omega arith)) (sym (ok_76 (eqb n 0) (drop at h)) ∙ d.good) ∙ rw (drop-drop, p);
      }
