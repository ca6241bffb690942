use Rattle.std.proofs.Common.{◌≡◌, ◌<◌, drop}
use Rattle.case_line.specs.CaseLine.{decimal}
use Rattle.case_line.proofs.number.Given as goal

abbrev pub invariant-loop-i : goal.invariant-loop-i
invariant-loop-i l = (l.n < 1000000) × (decimal l.n (drop l.i l.digits) ≡ decimal 0 l.digits)
