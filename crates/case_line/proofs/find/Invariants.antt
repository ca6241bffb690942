use Rattle.std.proofs.Common.{◌≡◌, ◌+◌, drop}
use Rattle.lists.specs.Run.{run}
use Rattle.case_line.specs.CaseLine.{other}
use Rattle.case_line.proofs.find.Given as goal

abbrev pub invariant-loop-i : goal.invariant-loop-i
invariant-loop-i l = l.at + run (other l.mark) (drop l.at l.s) ≡ l.i + run (other l.mark) (drop l.i l.s)
