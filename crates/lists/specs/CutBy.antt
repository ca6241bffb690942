-- Lists cut into parts, where what stands at the front tells how long the next part is.
use Rattle.std.specs.Prelude.{List, [], ◌∷◌, ℕ, zero, suc, pred, take}

-- what is left of a list, after k elements of the part before, cut into parts
unfoldable pub cut_after : (List ℕ → ℕ) → ℕ → List ℕ → List (List ℕ)
cut_after size k [] = []
cut_after size (suc k) (b ∷ rest) = cut_after size k rest
cut_after size zero (b ∷ rest) = let more = pred (size (b ∷ rest)) in take (suc more) (b ∷ rest) ∷ cut_after size more rest

-- a list cut into parts: the next part of what is left has `size` elements, at least one, or as many as there are
unfoldable pub cut_by : (List ℕ → ℕ) → List ℕ → List (List ℕ)
cut_by size s = cut_after size 0 s
