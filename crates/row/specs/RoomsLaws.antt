-- Demand 3 by line: words set one to a line, where each line has a room of its own.
use Rattle.std.specs.Prelude.{ℕ, suc, ◌≤◌, length, List, [], ◌∷◌}
use Rattle.row.specs.Layout.{Word}

-- Words on the lines from line k on, at most one on each, and how many lines. Line k has room for `rooms k` characters between a word's opening
-- and closing.
pub data OnLines (rooms : ℕ → ℕ) : ℕ → List Word → ℕ → Type 0 where
  end : {k : ℕ} → OnLines rooms k [] 0
  word : {k n : ℕ} {w : Word} {ws : List Word} → length w.standing ≤ rooms k → OnLines rooms (suc k) ws n → OnLines rooms k (w ∷ ws) (suc n)
  without : {k n : ℕ} {ws : List Word} → OnLines rooms (suc k) ws n → OnLines rooms k ws (suc n)
