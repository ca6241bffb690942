use Rattle.std.proofs.Common.{◌≡◌, drop}
use Rattle.received.specs.Received.{column_after}
use Rattle.received.proofs.lines.column_after.Given as goal

abbrev pub invariant-loop-b : goal.invariant-loop-b
invariant-loop-b l = column_after l.column l.s ≡ column_after l.at (drop l.b-index l.s)
