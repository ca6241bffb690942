-- The bytes of a character by its place, and characters of which no byte is ASCII.
use Rattle.std.specs.Prelude.{◌≡◌, refl, Bool, true, not, ◌&&◌, List, [], ◌∷◌, ◌++◌, ℕ, zero, suc, ◌+◌, ◌-◌, ◌*◌, ◌≤◌, ◌<◌, min, ltb, take, drop, Option, Some}
use Rattle.std.proofs.Math.Path.{sym}
use Rattle.std.proofs.Common.{ap, ◌∙◌, append-nil, not-suc-le-zero, add-one, arith, lt→ltb, le→leb, drop-cons, take-suc, get_or-take}
use Rattle.std.proofs.Math.Bool.{false}
use Rattle.std.proofs.Math.Numerals.{unary_clauses}
use Rattle.std.proofs.Math.Dec.{T, leb}
use Rattle.std.proofs.Math.ListN.{length, get_or, length-take, length-drop, get_or-eq_default}
use Rattle.std.proofs.Math.Seq.{get_or-drop}
use Rattle.std.proofs.Math.Facts.{ltb_yes, ltb_no, yes_and}
use borrow.Author.Tests.{leb-true, not-true, not-false}
use Rattle.lists.specs.Lists.{all, nonzero}
use Rattle.lists.specs.ListsLaws.{some_nonzero, by_test, cond_yes, cond_no, all_append, all_at_lem}
use Rattle.lists.specs.ByteLaws.{within_low, to_within}
use Rattle.lists.specs.Byte.{within}
use Rattle.utf8.specs.Utf8.{char_len}
use Rattle.utf8.specs.Utf8Laws.{char_len_le}
use Rattle.word_spelling.specs.Spelling.{escape}
use Rattle.word_spelling.specs.Cost.{cost}
use Rattle.word_spelling.specs.SpellingLaws.{length_spell, high_cost, escapes, escapes_append}
use Rattle.word_spelling.specs.HighChar.{high, high_size, HighChar}

-- ---- what code tests

pub both : (a b : Bool) → a && b ≡ true → (a ≡ true) × (b ≡ true)
both true b e = (refl, e)
both false b e = let z : ◌≡◌ {A = ℕ} 0 1 = cc in absurd (omega arith)

-- tests at once
pub at_least : (n a b : ℕ) → leb n a && leb n b ≡ true → (n ≤ a) × (n ≤ b)
at_least n a b e = let p = both (leb n a) (leb n b) e in (leb-true n a p.0, leb-true n b p.1)

-- of three tests
pub all_three : (a b c : Bool) → a && b && c ≡ true → (a ≡ true) × (b ≡ true) × (c ≡ true)
all_three a b c e = let p = both (a && b) c e in let q = both a b p.0 in (q.0, q.1, p.1)

-- ---- the length of a character

pub ascii_len : (b : ℕ) → b < 128 → char_len b ≡ 1
unfolding char_len
ascii_len b h = cond_yes (ltb b 128) 1 _ (lt→ltb b 128 h)

-- a byte that starts a character of more bytes is not ASCII
lead_high : (b : ℕ) → 2 ≤ char_len b → 128 ≤ b
lead_high b h = by_test (ltb b 128) (λ t. absurd (omega (arith, ascii_len b (ltb_yes t)))) (λ t. ltb_no t)

take_min : (n : ℕ) (l : List ℕ) → take (min n (length l)) l ≡ take n l
take_min zero l = simp unary_clauses
take_min (suc n) [] = simp unary_clauses
take_min (suc n) (x ∷ l) = simp unary_clauses (ap (λ (r : List ℕ). x ∷ r) (take_min n l))

module _ (s : List ℕ) (i : ℕ) where
  -- the bytes of a character, however long
  pub char_size : (e : ℕ) → e ≡ min (i + char_len (get_or s i 0)) (length s) → length (take (e - i) (drop i s)) ≤ 8
  char_size e he = rw length-take (omega (arith, char_len_le (get_or s i 0)))

  -- cut at the end of the text
  pub char_cut : (e : ℕ) → e ≡ min (i + char_len (get_or s i 0)) (length s) → take (e - i) (drop i s) ≡ take (char_len (get_or s i 0)) (drop i s)
  char_cut e he =
      let n = char_len (get_or s i 0) in
      let clipped : min n (length (drop i s)) ≡ e - i = omega (arith, length-drop i s) in
      rw (← clipped) (take_min n (drop i s))

  pub char_cost_lem : (e m : ℕ) → e ≡ min (i + char_len (get_or s i 0)) (length s) → m ≡ cost (take (e - i) (drop i s)) → m ≤ 24
  char_cost_lem e m he hm = omega (arith, hm, length_spell (take (e - i) (drop i s)), char_size e he)

  -- an ASCII character
  pub one_byte : i < length s → take (i + 1 - i) (drop i s) ≡ get_or s i 0 ∷ []
  one_byte h = let size : i + 1 - i ≡ 1 = omega arith in rw (size, drop-cons s i 0 h)

-- ---- bytes from a place on, one more

module _ (s : List ℕ) (i : ℕ) where
  next_byte : (n j : ℕ) → j ≡ i + n → j < length s → take (n + 1) (drop i s) ≡ take n (drop i s) ++ (get_or s j 0 ∷ [])
  next_byte n j e h = rw (add-one, take-suc (drop i s) n 0 (rw length-drop (omega arith)), get_or-drop i s n 0, ← e)

  pub high_next : (n j : ℕ) → j ≡ i + n → j < length s → 128 ≤ get_or s j 0 → get_or s j 0 < 256 → T (all high (take n (drop i s))) → T (all high (take (n + 1) (drop i s)))
  high_next n j e h l g t =
      rw (next_byte n j e h) (all_append high (take n (drop i s)) (get_or s j 0 ∷ []) t (yes_and (high (get_or s j 0)) true (to_within 128 255 (get_or s j 0) l (omega arith)) tt))

  pub escapes_next : (n j : ℕ) → j ≡ i + n → j < length s → escapes (take (n + 1) (drop i s)) ≡ escapes (take n (drop i s)) ++ escape (get_or s j 0)
  escapes_next n j e h = rw (next_byte n j e h, escapes_append (take n (drop i s)) (get_or s j 0 ∷ []), append-nil)

-- ---- a character of which no byte is ASCII

-- what code answers, by the definition and by what callers rely on
abbrev pub Sized : List ℕ → ℕ → ℕ → Type 0
Sized s i r = (r ≡ high_size s i) × HighChar s i r

-- the same of a length as the option of one
abbrev pub SizedAs : List ℕ → ℕ → Option ℕ → Type 0
SizedAs s i o = (o ≡ nonzero (high_size s i)) × HighChar s i (high_size s i)

pub as_option : {s : List ℕ} {i r : ℕ} → Sized s i r → SizedAs s i (nonzero r)
as_option p = rw (← p.0) (refl, p.1)

pub some_size : {s : List ℕ} {i n r : ℕ} {o : Option ℕ} → SizedAs s i o → o ≡ Some n → n ≡ r → HighChar s i r
some_size {s} {i} {n} p e d = let same = (some_nonzero (high_size s i) n (sym p.0 ∙ e)).1 in rw (← same, d) at p.1

no_and : (a b : Bool) → T (not b) → T (not (a && b))
no_and true b t = t
no_and false b t = tt

module _ (s : List ℕ) (i : ℕ) where
  no_high_char : HighChar s i 0
  no_high_char = record {
    least = λ h. absurd (not-suc-le-zero h);
    most = omega arith;
    size = λ h. absurd (not-suc-le-zero h);
    fits = λ h. absurd (not-suc-le-zero h);
    bytes = λ h. absurd (not-suc-le-zero h);
  }

  -- past the end of the text
  pub high_past : length s ≤ i → Sized s i 0
  unfolding high_size
  high_past h = (rw (get_or-eq_default s 0 h, ascii_len 0 (omega arith)), no_high_char)

  module _ (size : ℕ) (e : size ≡ char_len (get_or s i 0)) where
    -- not 2 to 4 bytes, or not whole
    pub high_other : not (leb 2 size && leb size 4 && leb size (length s - i)) ≡ true → Sized s i 0
    unfolding high_size
    high_other t =
        let none : leb 2 size && leb size 4 && leb size (length s - i) ≡ false = not-true (leb 2 size && leb size 4 && leb size (length s - i)) t in
        (rw (← e, none), no_high_char)

    module _ (t : not (leb 2 size && leb size 4 && leb size (length s - i)) ≡ false) where
      tests : (leb 2 size ≡ true) × (leb size 4 ≡ true) × (leb size (length s - i) ≡ true)
      tests = all_three (leb 2 size) (leb size 4) (leb size (length s - i)) (not-false _ t)

      -- its length
      pub high_whole : (2 ≤ size) × (size ≤ 4) × (size ≤ length s - i)
      high_whole = (leb-true 2 size tests.0, leb-true size 4 tests.1, leb-true size (length s - i) tests.2)

      -- a byte that is ASCII
      pub high_byte : (k j : ℕ) → j ≡ i + k → k < size → get_or s j 0 < 128 → Sized s i 0
      unfolding high_size
      high_byte k j p h l =
          let inside : k < length (take size (drop i s)) = rw length-take (omega (arith, length-drop i s, high_whole.2)) in
          let there : get_or (take size (drop i s)) k 0 ≡ get_or s j 0 = rw (get_or-take, get_or-drop, p) in
          let low : T (not (all high (take size (drop i s)))) =
          by_test (all high (take size (drop i s)))
          (λ u. absurd (omega (arith, within_low 128 255 (get_or (take size (drop i s)) k 0) (all_at_lem high (take size (drop i s)) k 0 u inside), there)))
          (λ u. u) in
          (rw (← e) (sym (cond_no (within 2 4 size && leb size (length s - i) && all high (take size (drop i s))) size 0 (no_and (within 2 4 size && leb size (length s - i)) (all high (take size (drop i s))) low))), no_high_char)

      -- none that is: what was tested of the bytes after the first
      pub high_char : (r : ℕ) → size ≡ r → get_or s i 0 < 256 → (T (all high (take 1 (drop i s))) → T (all high (take r (drop i s)))) → Sized s i r
      unfolding high_size
      high_char r p g more =
          let w = high_whole in
          let len : char_len (get_or s i 0) ≡ r = sym e ∙ p in
          let first = high_next s i 0 i (omega arith) (omega arith) (lead_high (get_or s i 0) (omega (arith, len))) g tt in
          let yes = yes_and (within 2 4 r && leb r (length s - i)) (all high (take r (drop i s)))
          (yes_and (within 2 4 r) (leb r (length s - i)) (to_within 2 4 r (omega arith) (omega arith)) (le→leb r (length s - i) (omega arith))) (more first) in (
            rw len (sym (cond_yes (within 2 4 r && leb r (length s - i) && all high (take r (drop i s))) r 0 yes)),
            record { least = λ h. omega arith; most = omega arith; size = λ h. len; fits = λ h. omega arith; bytes = λ h. more first },
          )

-- its end, its bytes and what they take
module _ {s : List ℕ} {i r : ℕ} (hr : 0 < r) (k : HighChar s i r) where
  pub whole_end : i + r ≡ min (i + char_len (get_or s i 0)) (length s)
  whole_end = omega (arith, k.size hr, k.fits hr)

  pub whole_take : take (i + r - i) (drop i s) ≡ take r (drop i s)
  whole_take = let size : i + r - i ≡ r = omega arith in rw size refl

  pub whole_cost : 3 * r ≡ cost (take r (drop i s))
  whole_cost =
      let size : length (take r (drop i s)) ≡ r = rw length-take (omega (arith, length-drop i s, k.fits hr)) in
      ap (λ (m : ℕ). 3 * m) (sym size) ∙ high_cost (take r (drop i s)) (k.bytes hr)
