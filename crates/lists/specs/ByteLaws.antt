-- Laws of tests of bytes, and facts of every byte by one computed test.
use Rattle.std.specs.Prelude.{◌≡◌, refl, Bool, true, false, not, ◌&&◌, ◌||◌, ℕ, zero, suc, ◌≤◌, ◌<◌, T, leb, eqb}
use Rattle.std.proofs.Common.{not-suc-le-zero, arith, eqb→eq}
use Rattle.std.proofs.Math.Facts.{and_yes, yes_and, leb_yes, yes_leb, eqb_no}
use Rattle.lists.specs.ListsLaws.{by_test}
use Rattle.lists.specs.Byte.{within}

pub within_low : (lo hi b : ℕ) → T (within lo hi b) → lo ≤ b
within_low lo hi b t = leb_yes (and_yes (leb lo b) (leb b hi) t).0

pub within_high : (lo hi b : ℕ) → T (within lo hi b) → b ≤ hi
within_high lo hi b t = leb_yes (and_yes (leb lo b) (leb b hi) t).1

pub to_within : (lo hi b : ℕ) → lo ≤ b → b ≤ hi → T (within lo hi b)
to_within lo hi b h k = yes_and (leb lo b) (leb b hi) (yes_leb h) (yes_leb k)

-- a test at every number below n
abbrev pub all_below : (ℕ → Bool) → ℕ → Bool
all_below f zero = true
all_below f (suc n) = f n && all_below f n

pub below : (f : ℕ → Bool) (n : ℕ) → T (all_below f n) → (k : ℕ) → k < n → T (f k)
below f zero t k h = absurd (not-suc-le-zero h)
below f (suc n) t k h =
    let both = and_yes (f n) (all_below f n) t in
    by_test (eqb k n) (λ e. rw (eqb→eq k n e) both.0) (λ e. below f n both.1 k (omega (arith, eqb_no {a = k} {b = n} e)))

pub implies : (a b : Bool) → T (not a || b) → T a → T b
implies true b t u = t
implies false b t u = absurd u

abbrev pub same_test : Bool → Bool → Bool
same_test true b = b
same_test false b = not b

pub same_test_lem : (a b : Bool) → T (same_test a b) → a ≡ b
same_test_lem true true t = refl
same_test_lem true false t = absurd t
same_test_lem false true t = absurd t
same_test_lem false false t = refl

-- two tests, or two numbers, that agree at every number below n
pub agree : (f g : ℕ → Bool) (n : ℕ) → T (all_below (λ k. same_test (f k) (g k)) n) → (k : ℕ) → k < n → f k ≡ g k
agree f g n t k h = same_test_lem (f k) (g k) (below (λ k. same_test (f k) (g k)) n t k h)

pub equal : (f g : ℕ → ℕ) (n : ℕ) → T (all_below (λ k. eqb (f k) (g k)) n) → (k : ℕ) → k < n → f k ≡ g k
equal f g n t k h = eqb→eq (f k) (g k) (below (λ k. eqb (f k) (g k)) n t k h)
