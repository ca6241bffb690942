use lib.ListN.{length}
use Rattle.downgraded_field.specs.ShownLaws.{Showing}
use Rattle.downgraded_field.proofs.text.put_turns.Given as goal

abbrev pub invariant-loop-turn : goal.invariant-loop-turn
invariant-loop-turn l = Showing l.s l.initial.out l.out l.at l.rest l.after

abbrev pub decreases-loop-turn : goal.decreases-loop-turn
decreases-loop-turn l = length l.rest
