-- Laws of base64: its length, its digits, its characters.
use Rattle.std.specs.Prelude.{◌≡◌, refl, Bool, true, not, ◌&&◌, ◌||◌, List, [], ◌∷◌, ℕ, ◌+◌, ◌*◌, ◌/◌, ◌%◌, ◌≤◌, ◌<◌, T, eqb, ltb, length}
use Rattle.std.proofs.Common.{ap, ◌∙◌, ⊎_elim, arith, eqb→eq, ltb→lt}
use Rattle.std.proofs.Math.Facts.{and_yes, or_yes, ltb_no, no_ltb, no_eqb}
use Rattle.lists.specs.Lists.{all}
use Rattle.lists.specs.ListsLaws.{by_test, cond_no, yes_true}
use Rattle.lists.specs.Byte.{within}
use Rattle.lists.specs.ByteLaws.{within_high, below, implies}
use Rattle.base64_digits.specs.Base64.{digit64, in_base64, base64_length}
use Rattle.base64_digits.specs.Reading.{is_digit64, value64}

-- ---- the length

pub length_base64 : (bytes : List ℕ) → length (in_base64 bytes) ≡ base64_length (length bytes)
unfolding in_base64
length_base64 [] = refl
length_base64 (a ∷ []) = refl
length_base64 (a ∷ b ∷ []) = refl
length_base64 (a ∷ b ∷ c ∷ bytes) = omega (arith, length_base64 bytes)

-- ---- one digit

-- each value 0 to 63, written, is a digit other than `=`, and reads back as itself
pub written_reads : (v : ℕ) → v < 64 → (is_digit64 (digit64 v) ≡ true) × (value64 (digit64 v) ≡ v) × T (not (eqb (digit64 v) 61))
unfolding digit64 is_digit64 value64
written_reads v h =
    let p = and_yes (is_digit64 (digit64 v) && eqb (value64 (digit64 v)) v) (not (eqb (digit64 v) 61))
    (below (λ k. is_digit64 (digit64 k) && eqb (value64 (digit64 k)) k && not (eqb (digit64 k) 61)) 64 tt v h) in
    let q = and_yes (is_digit64 (digit64 v)) (eqb (value64 (digit64 v)) v) p.0 in
    (yes_true (is_digit64 (digit64 v)) q.0, eqb→eq (value64 (digit64 v)) v q.1, p.1)

-- a digit is at most `z` (122)
digit_le : (b : ℕ) → T (is_digit64 b) → b ≤ 122
unfolding is_digit64
digit_le b t =
    ⊎_elim
    (λ t. ⊎_elim
    (λ t. ⊎_elim
    (λ t. ⊎_elim (λ t. omega (arith, within_high 65 90 b t)) (λ t. within_high 97 122 b t) (or_yes (within 65 90 b) (within 97 122 b) t))
    (λ t. omega (arith, within_high 48 57 b t)) (or_yes (within 65 90 b || within 97 122 b) (within 48 57 b) t))
    (λ t. omega (arith, eqb→eq b 43 t)) (or_yes (within 65 90 b || within 97 122 b || within 48 57 b) (eqb b 43) t))
    (λ t. omega (arith, eqb→eq b 47 t)) (or_yes (within 65 90 b || within 97 122 b || within 48 57 b || eqb b 43) (eqb b 47) t)

-- no byte other than the sixty-four digits is one: a digit is what its value, 0 to 63, is written as
pub reads_only : (b : ℕ) → T (is_digit64 b) → (value64 b < 64) × (digit64 (value64 b) ≡ b)
unfolding digit64 is_digit64 value64
reads_only b t =
    let test : ℕ → Bool = λ k. not (is_digit64 k) || ltb (value64 k) 64 && eqb (digit64 (value64 k)) k in
    let both = and_yes (ltb (value64 b) 64) (eqb (digit64 (value64 b)) b)
    (implies (is_digit64 b) (ltb (value64 b) 64 && eqb (digit64 (value64 b)) b) (below test 123 tt b (omega (arith, digit_le b t))) t) in
    (ltb→lt (value64 b) 64 both.0, eqb→eq (digit64 (value64 b)) b both.1)

-- ---- the characters: digits and `=`, which are ASCII, and neither a space nor `?`

abbrev pub is_base64 : ℕ → Bool
is_base64 b = is_digit64 b || eqb b 61

-- a number past 63 is written as 63 is
digit_past : (v : ℕ) → 63 ≤ v → digit64 v ≡ 47
unfolding digit64
digit_past v h =
    cond_no (ltb v 26) _ _ (no_ltb {a = v} {b = 26} (omega arith)) ∙ cond_no (ltb v 52) _ _ (no_ltb {a = v} {b = 52} (omega arith)) ∙ cond_no (ltb v 62) _ _ (no_ltb {a = v} {b = 62} (omega arith))
    ∙ cond_no (eqb v 62) _ _ (no_eqb {a = v} {b = 62} (λ e. omega (arith, e)))

digit_is : (v : ℕ) → is_base64 (digit64 v) ≡ true
unfolding is_digit64
digit_is v =
    by_test (ltb v 64) (λ t. ap (λ (b : Bool). b || eqb (digit64 v) 61) (written_reads v (ltb→lt v 64 t)).0)
    (λ t. rw (digit_past v (omega (arith, ltb_no {a = v} {b = 64} t))) refl)

pub all_base64 : (bytes : List ℕ) → T (all is_base64 (in_base64 bytes))
unfolding in_base64 is_digit64
all_base64 [] = tt
all_base64 (a ∷ []) = rw (digit_is (a / 4), digit_is (a % 4 * 16)) tt
all_base64 (a ∷ b ∷ []) = rw (digit_is (a / 4), digit_is (a % 4 * 16 + b / 16), digit_is (b % 16 * 4)) tt
all_base64 (a ∷ b ∷ c ∷ bytes) =
    rw (digit_is (a / 4), digit_is (a % 4 * 16 + b / 16), digit_is (b % 16 * 4 + c / 64), digit_is (c % 64)) (all_base64 bytes)
