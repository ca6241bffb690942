-- Numbers in decimal digits.
use Rattle.std.specs.Prelude.{cond, List, [], ◌∷◌, ◌++◌, ℕ, zero, suc, ◌+◌, ◌/◌, ◌%◌, ltb}

-- the digits of a number, the last by its remainder by ten; `0` is 48. As many steps as the number counts are enough.
unfoldable pub digits_in : ℕ → ℕ → List ℕ
digits_in zero n = (n % 10 + 48) ∷ []
digits_in (suc steps) n = let more = digits_in steps (n / 10) ++ ((n % 10 + 48) ∷ []) in cond (ltb n 10) ((n % 10 + 48) ∷ []) more

-- a number in decimal digits, without leading zeros
unfoldable pub decimal : ℕ → List ℕ
decimal n = digits_in n n
