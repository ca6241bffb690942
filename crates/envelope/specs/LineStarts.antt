-- The "array of 100 line starts, filled in the checking pass and used in the writing pass": what the two passes promise of it.
use Rattle.std.specs.Prelude.{◌≡◌, cond, List, [], ◌∷◌, map, ℕ, zero, suc, ◌+◌, min, length, drop, get_or, Result, is_ok}
use Rattle.buffer.specs.Buffer.{overlay}
use Rattle.rules.specs.declared.Rules.{Rules}
use Rattle.envelope.specs.declared.FaultAt.{FaultAt}
use Rattle.envelope.specs.Envelope.{lines, line_text, fault_of, checked}

-- where the lines from line n on start, up to the first at fault; line n starts at `at`
unfoldable pub starts_from : Rules → ℕ → ℕ → List (List ℕ) → List ℕ
starts_from rules n at [] = []
starts_from rules n at (line ∷ more) = let next = starts_from rules (suc n) (at + length line) more in cond (is_ok (fault_of rules n line)) (at ∷ next) []

-- where the RCPT lines start: all but the first line
unfoldable pub rcpt_starts : Rules → List ℕ → List ℕ
rcpt_starts rules e = drop 1 (starts_from rules 0 0 (lines e))

-- What the check answers; and the array afterwards, in which the starts of the RCPT lines are stored from the front.
pub record EnvelopeChecked (rules : Rules) (e before after : List ℕ) (r : Result ℕ FaultAt) : Type 0 where
  pub answer : r ≡ checked rules e
  pub starts : after ≡ overlay (rcpt_starts rules e) before

-- the first n entries of an array
unfoldable pub entries : ℕ → List ℕ → List ℕ
entries zero array = []
entries (suc n) array = get_or array 0 0 ∷ entries n (drop 1 array)

-- The lines, without their CRLFs, that the writing pass finds: the first, and `count` that start at the places in the array.
unfoldable pub texts_at : ℕ → List ℕ → List ℕ → List (List ℕ)
texts_at count starts e = line_text e ∷ map (λ at. line_text (drop at e)) (entries (min count 100) starts)
