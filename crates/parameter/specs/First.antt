-- The first parameter of a tail that meets a test.
use Rattle.std.specs.Prelude.{Bool, cond, List, [], ◌∷◌, ℕ, suc, ◌+◌, ltb, length, Option, Some, None}

-- the place of the space before it, in parameters of which the first one's space stands at `at`
unfoldable pub first_of : (List ℕ → Bool) → ℕ → List (List ℕ) → Option ℕ
first_of f at [] = None
first_of f at (p ∷ ps) = let more = first_of f (at + suc (length p)) ps in cond (f p) (Some at) more

-- a place, if it is one of a line
unfoldable pub in_line : List ℕ → ℕ → Option ℕ
in_line line at = cond (ltb at (length line)) (Some at) None
