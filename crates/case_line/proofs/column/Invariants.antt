use Rattle.std.proofs.Common.{◌≡◌, drop}
use Rattle.case_line.specs.CaseLine.{after_bars}
use Rattle.case_line.proofs.column.Given as goal

abbrev pub invariant-loop-k : goal.invariant-loop-k
invariant-loop-k l = drop l.from l.line ≡ after_bars l.k l.line
