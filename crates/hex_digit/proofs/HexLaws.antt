-- What is written reads back, and nothing else is read.
use Rattle.std.specs.Prelude.{◌≡◌, refl, Bool, true, false, not, cond, ◌&&◌, ◌||◌, ℕ, ◌+◌, ◌-◌, ◌/◌, ◌%◌, ◌≤◌, ◌<◌, T, eqb, ltb}
use Rattle.std.proofs.Common.{sym, ap, ◌∙◌, arith, eqb→eq, lt→ltb, ⊎_elim}
use Rattle.std.proofs.Math.Facts.{and_yes, or_yes, no_ltb}
use Rattle.lists.specs.Byte.{within}
use Rattle.lists.specs.ListsLaws.{by_test, cond_yes, cond_no, yes_true, true_yes, no_false}
use Rattle.lists.specs.ByteLaws.{within_low, within_high, below, implies}
use Rattle.hex_digit.specs.Hex.{hex_digit, is_hex_digit, hex_value}

-- each value 0 to 15, written, is a digit and reads back as itself
pub written_reads : (v : ℕ) → v < 16 → T (is_hex_digit (hex_digit v)) × (hex_value (hex_digit v) ≡ v)
unfolding hex_digit is_hex_digit hex_value
written_reads v h =
    let both = and_yes (is_hex_digit (hex_digit v)) (eqb (hex_value (hex_digit v)) v)
    (below (λ k. is_hex_digit (hex_digit k) && eqb (hex_value (hex_digit k)) k) 16 tt v h) in
    (both.0, eqb→eq (hex_value (hex_digit v)) v both.1)

-- no other byte reads as a digit: only the sixteen have a value 0 to 15
pub reads_only : (b : ℕ) → ltb (hex_value b) 16 ≡ is_hex_digit b
unfolding is_hex_digit hex_value
reads_only b =
    by_test (within 48 57 b)
    (λ t. rw (yes_true (within 48 57 b) t) (yes_true (ltb (b - 48) 16) (lt→ltb (b - 48) 16 (omega (arith, within_high 48 57 b t)))))
    (λ t. rw (no_false (within 48 57 b) t) (letters (within 65 70 b) refl))
  where
    letters : (m : Bool) → within 65 70 b ≡ m → ltb (cond m (b - 65 + 10) 16) 16 ≡ m
    letters true e = yes_true (ltb (b - 65 + 10) 16) (lt→ltb (b - 65 + 10) 16 (omega (arith, within_low 65 70 b (true_yes _ e), within_high 65 70 b (true_yes _ e))))
    letters false e = refl

-- and a digit is what its value is written as
digit_written : (b : ℕ) → T (is_hex_digit b) → hex_digit (hex_value b) ≡ b
unfolding hex_digit is_hex_digit hex_value
digit_written b t =
    let most : b ≤ 70 = ⊎_elim (λ u. omega (arith, within_high 48 57 b u)) (λ u. within_high 65 70 b u) (or_yes (within 48 57 b) (within 65 70 b) t) in
    let test : ℕ → Bool = λ k. not (is_hex_digit k) || eqb (hex_digit (hex_value k)) k in
    eqb→eq (hex_digit (hex_value b)) b (implies (is_hex_digit b) (eqb (hex_digit (hex_value b)) b) (below test 71 tt b (omega arith)) t)

pub read_written : (b : ℕ) → hex_value b < 16 → hex_digit (hex_value b) ≡ b
read_written b h =
    digit_written b (true_yes (is_hex_digit b) (sym (reads_only b) ∙ yes_true (ltb (hex_value b) 16) (lt→ltb (hex_value b) 16 h)))

-- ---- the digit, by the test that code makes

pub digit_decimal : (v : ℕ) → v < 10 → 48 + v ≡ hex_digit v
unfolding hex_digit
digit_decimal v h = let same : 48 + v ≡ v + 48 = omega arith in same ∙ sym (cond_yes (ltb v 10) _ _ (lt→ltb v 10 h))

pub digit_letter : (v : ℕ) → 10 ≤ v → 55 + v ≡ hex_digit v
unfolding hex_digit
digit_letter v h = let same : 55 + v ≡ v - 10 + 65 = omega arith in same ∙ sym (cond_no (ltb v 10) _ _ (no_ltb h))

-- the digits of the two halves of a byte
pub upper_half : (b : ℕ) → b < 256 → {r : ℕ} → r ≡ hex_digit (b / 16 % 16) → r ≡ hex_digit (b / 16)
upper_half b h e = let same : b / 16 % 16 ≡ b / 16 = omega arith in e ∙ ap hex_digit same

pub lower_half : (b : ℕ) {r : ℕ} → r ≡ hex_digit (b % 16 % 16) → r ≡ hex_digit (b % 16)
lower_half b e = let same : b % 16 % 16 ≡ b % 16 = omega arith in e ∙ ap hex_digit same

-- ---- the value, by the tests that code makes

module _ (b : ℕ) where
  -- a byte in a range
  pub in_range : (lo hi : ℕ) → within lo hi b ≡ true → (lo ≤ b) × (b ≤ hi)
  in_range lo hi e = let t = true_yes (within lo hi b) e in (within_low lo hi b t, within_high lo hi b t)

  -- `0` to `9`
  pub value_decimal : within 48 57 b ≡ true → (b - 48 ≡ hex_value b) × (b - 48 ≤ 16)
  unfolding hex_value
  value_decimal e = (rw e, omega (arith, in_range 48 57 e))

  -- `A` to `F`
  pub value_letter : within 48 57 b ≡ false → within 65 70 b ≡ true → (b - 65 + 10 ≡ hex_value b) × (b - 65 + 10 ≤ 16)
  unfolding hex_value
  value_letter n e = (rw (n, e), omega (arith, in_range 65 70 e))

  -- any other byte
  pub value_other : within 48 57 b ≡ false → within 65 70 b ≡ false → (16 ≡ hex_value b) × (16 ≤ 16)
  unfolding hex_value
  value_other n m = (rw (n, m), omega arith)
