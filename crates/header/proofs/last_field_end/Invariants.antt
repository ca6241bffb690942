use Rattle.header.specs.AsciiFieldsLaws.{NoEnd}
use Rattle.header.proofs.last_field_end.Given as goal

abbrev pub invariant-loop-i : goal.invariant-loop-i
invariant-loop-i l = NoEnd l.h l.at l.i l.to
