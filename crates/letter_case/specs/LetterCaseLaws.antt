-- Laws of texts compared without regard to letter case, byte by byte.
use Rattle.std.specs.Prelude.{◌≡◌, refl, Bool, true, false, List, [], ◌∷◌, ℕ, suc, ◌+◌, ◌≤◌, ◌<◌, T, leb, ltb, eqb, length, drop, get_or, map, IsTrue, ◌↔◌}
use Rattle.std.specs.Char.{to_ascii_lowercase}
use Rattle.std.proofs.Common.{ap, sym, ◌∙◌, add-one, arith, eqb→eq}
use Rattle.std.proofs.Math.Facts.{and_yes, ltb_yes, ltb_no, leb_yes, leb_no}
use Rattle.lists.specs.ListsLaws.{by_test, yes_true, no_false}
use Rattle.std.proofs.Math.Bool.{and-false}
use Rattle.std.proofs.Math.ListN.{drop_of_length-le}
use Rattle.std.proofs.Math.Seq.{drop-cons}
use borrow.Author.Tests.{eq-eqb, ne_eqb, lt-ltb, le-ltb, lt-leb, le-leb}
use Rattle.letter_case.specs.LetterCase.{lower, same_any_case}

pub other_length : (xs ys : List ℕ) → (length xs ≡ length ys → ⊥) → same_any_case xs ys ≡ false
unfolding same_any_case
other_length [] [] h = absurd (h refl)
other_length [] (y ∷ ys) h = refl
other_length (x ∷ xs) [] h = refl
other_length (x ∷ xs) (y ∷ ys) h = rw (other_length xs ys (λ e. h (ap suc e)), and-false)

module _ (xs ys : List ℕ) (i : ℕ) where
  pub other_byte : i < length xs → i < length ys → (lower (get_or xs i 0) ≡ lower (get_or ys i 0) → ⊥) → same_any_case (drop i xs) (drop i ys) ≡ false
  unfolding same_any_case
  other_byte h k e = rw (drop-cons xs i 0 h, drop-cons ys i 0 k, ne_eqb _ _ e)

  pub same_byte : i < length xs → i < length ys → lower (get_or xs i 0) ≡ lower (get_or ys i 0) → same_any_case (drop i xs) (drop i ys) ≡ same_any_case (drop (i + 1) xs) (drop (i + 1) ys)
  unfolding same_any_case
  same_byte h k e = rw (add-one, drop-cons xs i 0 h, drop-cons ys i 0 k, eq-eqb _ _ e)

  pub same_end : length xs ≤ i → length ys ≤ i → same_any_case (drop i xs) (drop i ys) ≡ true
  unfolding same_any_case
  same_end h k = rw (drop_of_length-le xs {i = i} h, drop_of_length-le ys {i = i} k)

-- ---- the library's words

pub lower_std : (b : ℕ) → to_ascii_lowercase b ≡ lower b
unfolding lower
lower_std b =
    by_test (ltb b 65) (λ t. let h : b < 65 = ltb_yes t in rw (lt-ltb b 65 h, lt-leb 65 b h))
    (λ t.
    let h : 65 ≤ b = ltb_no t in
    by_test (leb b 90)
    (λ u. let k : b < 91 = omega (arith, leb_yes u) in rw (le-ltb b 65 h, lt-ltb b 91 k, le-leb 65 b h, yes_true (leb b 90) u))
    (λ u. let k : 91 ≤ b = omega (arith, leb_no {a = b} {b = 90} u) in rw (le-ltb b 65 h, le-ltb b 91 k, le-leb 65 b h, no_false (leb b 90) u)))

small_same : (xs ys : List ℕ) → map to_ascii_lowercase xs ≡ map to_ascii_lowercase ys → same_any_case xs ys ≡ true
unfolding same_any_case
small_same [] [] e = refl
small_same [] (y ∷ ys) e = absurd (omega (arith, ap length e))
small_same (x ∷ xs) [] e = absurd (omega (arith, ap length e))
small_same (x ∷ xs) (y ∷ ys) e =
    let here : lower x ≡ lower y = sym (lower_std x) ∙ ap (λ (l : List ℕ). get_or l 0 0) e ∙ lower_std y in
    rw (eq-eqb (lower x) (lower y) here) (small_same xs ys (ap (drop 1) e))

same_small : (xs ys : List ℕ) → T (same_any_case xs ys) → map to_ascii_lowercase xs ≡ map to_ascii_lowercase ys
unfolding same_any_case
same_small [] [] t = refl
same_small [] (y ∷ ys) t = absurd t
same_small (x ∷ xs) [] t = absurd t
same_small (x ∷ xs) (y ∷ ys) t =
    let both = and_yes (eqb (lower x) (lower y)) (same_any_case xs ys) t in
    let here : to_ascii_lowercase x ≡ to_ascii_lowercase y = lower_std x ∙ eqb→eq (lower x) (lower y) both.0 ∙ sym (lower_std y) in
    rw (here, same_small xs ys both.1)

-- as the library's test says it
pub same_std : (xs ys : List ℕ) (r : Bool) → IsTrue r ↔ (map to_ascii_lowercase xs ≡ map to_ascii_lowercase ys) → r ≡ same_any_case xs ys
same_std xs ys true h = sym (small_same xs ys (h.0 refl))
same_std xs ys false h = by_test (same_any_case xs ys) (λ t. h.1 (same_small xs ys t) ∙ sym (yes_true (same_any_case xs ys) t)) (λ t. sym (no_false (same_any_case xs ys) t))
