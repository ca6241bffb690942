-- Lists taken part by part, where what stands at the front tells how long the next part is, and what is made of each part.
use Rattle.std.specs.Prelude.{List, [], ◌∷◌, ℕ, zero, suc, pred}

-- what f makes of what is left at each part, after k elements of the part before
unfoldable pub each_after : {A : Type 0} → (List ℕ → ℕ) → (List ℕ → A) → ℕ → List ℕ → List A
each_after size f k [] = []
each_after size f (suc k) (b ∷ rest) = each_after size f k rest
each_after size f zero (b ∷ rest) = f (b ∷ rest) ∷ each_after size f (pred (size (b ∷ rest))) rest

abbrev pub each : {A : Type 0} → (List ℕ → ℕ) → (List ℕ → A) → List ℕ → List A
each size f s = each_after size f 0 s
