use Rattle.line.specs.CrLaws.{Counted}
use Rattle.line.proofs.crs64.Given as goal

abbrev pub invariant-loop-j : goal.invariant-loop-j
invariant-loop-j l = Counted l.s l.at l.j l.n l.p
