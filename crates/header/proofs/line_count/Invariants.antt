use Rattle.header.specs.FieldLaws.{Counted}
use Rattle.header.proofs.line_count.Given as goal

abbrev pub invariant-loop-i : goal.invariant-loop-i
invariant-loop-i l = Counted l.s l.i l.n
