-- Runs: how many bytes at the front of a list pass a test.
use Rattle.std.specs.Prelude.{Bool, cond, List, [], ◌∷◌, ℕ, suc}

-- how many bytes at the front pass the test
unfoldable pub run : (ℕ → Bool) → List ℕ → ℕ
run f [] = 0
run f (x ∷ xs) = cond (f x) (suc (run f xs)) 0
