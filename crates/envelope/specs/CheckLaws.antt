-- Laws of the check: line by line, as code goes through an envelope.
use Rattle.std.specs.Prelude.{◌≡◌, List, ℕ, drop, Result}
use Rattle.buffer.specs.Buffer.{overlay}
use Rattle.rules.specs.declared.Rules.{Rules}
use Rattle.envelope.specs.declared.FaultAt.{FaultAt}
use Rattle.envelope.specs.Envelope.{lines, checked_from}
use Rattle.envelope.specs.LineStarts.{starts_from}

-- what the check of the RCPT lines from a place on answers, and the array of line starts afterwards
pub record RcptsChecked (rules : Rules) (e : List ℕ) (at : ℕ) (before after : List ℕ) (r : Result ℕ FaultAt) : Type 0 where
  pub answer : r ≡ checked_from rules 1 (lines (drop at e))
  pub starts : after ≡ overlay (starts_from rules 1 at (lines (drop at e))) before
