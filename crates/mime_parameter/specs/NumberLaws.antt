-- Laws of decimal numbers: digit by digit, their length, that they are ASCII.
use Rattle.std.specs.Prelude.{◌≡◌, refl, true, List, [], ◌∷◌, ◌++◌, ℕ, zero, suc, ◌+◌, ◌/◌, ◌%◌, ◌≤◌, ◌<◌, T, ltb, length}
use Rattle.std.proofs.Common.{sym, ap, ◌∙◌, arith, lt→ltb, length-append}
use Rattle.std.proofs.Math.Facts.{yes_and, no_ltb, ltb_yes, ltb_no}
use Rattle.lists.specs.Byte.{is_ascii}
use Rattle.lists.specs.Lists.{all}
use Rattle.lists.specs.ListsLaws.{by_test, cond_yes, cond_no, cond_has, all_append}
use Rattle.mime_parameter.specs.Number.{digits_in, decimal}

abbrev last : ℕ → List ℕ
last n = (n % 10 + 48) ∷ []

digits_low : (steps n : ℕ) → n < 10 → digits_in steps n ≡ last n
unfolding digits_in
digits_low zero n h = refl
digits_low (suc steps) n h = cond_yes (ltb n 10) _ _ (lt→ltb n 10 h)

digits_high : (steps n : ℕ) → 10 ≤ n → digits_in (suc steps) n ≡ digits_in steps (n / 10) ++ last n
unfolding digits_in
digits_high steps n h = cond_no (ltb n 10) _ _ (no_ltb h)

-- more steps than enough make no difference
digits_enough : (s t n : ℕ) → n ≤ s → n ≤ t → digits_in s n ≡ digits_in t n
digits_enough zero t n h k = digits_low zero n (omega arith) ∙ sym (digits_low t n (omega arith))
digits_enough (suc s) zero n h k = digits_low (suc s) n (omega arith) ∙ sym (digits_low zero n (omega arith))
digits_enough (suc s) (suc t) n h k =
    by_test (ltb n 10)
    (λ u. let low : n < 10 = ltb_yes u in digits_low (suc s) n low ∙ sym (digits_low (suc t) n low))
    (λ u.
    let high : 10 ≤ n = ltb_no u in
    digits_high s n high ∙ rw (digits_enough s t (n / 10) (omega arith) (omega arith)) (sym (digits_high t n high)))

pub decimal_low : (n : ℕ) → n < 10 → decimal n ≡ last n
unfolding decimal
decimal_low n h = digits_low n n h

pub decimal_high : (n : ℕ) → 10 ≤ n → decimal n ≡ decimal (n / 10) ++ last n
unfolding decimal
decimal_high zero h = absurd (omega arith)
decimal_high (suc m) h = digits_high m (suc m) h ∙ ap (λ (l : List ℕ). l ++ last (suc m)) (digits_enough m (suc m / 10) (suc m / 10) (omega arith) (omega arith))

length_digits : (steps n : ℕ) → (0 < length (digits_in steps n)) × (length (digits_in steps n) ≤ suc steps)
unfolding digits_in
length_digits zero n = (omega arith, omega arith)
length_digits (suc steps) n =
    let size = length-append (digits_in steps (n / 10)) (last n) in
    let more = length_digits steps (n / 10) in
    cond_has (λ (l : List ℕ). (0 < length l) × (length l ≤ suc (suc steps))) (ltb n 10) (last n) (digits_in steps (n / 10) ++ last n)
    (λ t. (omega arith, omega arith))
    (λ t. (omega (arith, size), omega (arith, size, more.1)))

pub length_decimal : (n : ℕ) → (0 < length (decimal n)) × (length (decimal n) ≤ n + 1)
unfolding decimal
length_decimal n = let k = length_digits n n in (k.0, omega (arith, k.1))

digits_ascii : (steps n : ℕ) → T (all is_ascii (digits_in steps n))
unfolding digits_in
digits_ascii zero n = yes_and (is_ascii (n % 10 + 48)) true (lt→ltb (n % 10 + 48) 128 (omega arith)) tt
digits_ascii (suc steps) n =
    let one = yes_and (is_ascii (n % 10 + 48)) true (lt→ltb (n % 10 + 48) 128 (omega arith)) tt in
    cond_has (λ (l : List ℕ). T (all is_ascii l)) (ltb n 10) (last n) (digits_in steps (n / 10) ++ last n)
    (λ t. one)
    (λ t. all_append is_ascii (digits_in steps (n / 10)) (last n) (digits_ascii steps (n / 10)) one)

pub decimal_ascii : (n : ℕ) → T (all is_ascii (decimal n))
unfolding decimal
decimal_ascii n = digits_ascii n n
