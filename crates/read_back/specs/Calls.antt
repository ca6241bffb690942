-- Calls of the reader, one after another.
use Rattle.std.specs.Prelude.{List, ℕ, zero, suc}
use Rattle.downgraded_reader.specs.Reader.{Outcome, outcome}

-- what the call after k others answers and leaves: the first is at a place, each other at the place after the field before, with the buffer
-- as it was left
unfoldable pub outcome_after : List ℕ → ℕ → List ℕ → ℕ → Outcome
outcome_after h place buffer zero = outcome h place buffer
outcome_after h place buffer (suc k) = let o = outcome h place buffer in outcome_after h o.next o.buffer k
