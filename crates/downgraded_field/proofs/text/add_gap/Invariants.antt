use Rattle.downgraded_field.specs.ShownLaws.{Gap}
use Rattle.downgraded_field.proofs.text.add_gap.Given as goal

abbrev pub invariant-loop-b : goal.invariant-loop-b
invariant-loop-b l = Gap l.gap l.at l.initial.out l.out l.b-index l.next
