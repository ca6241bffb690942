use lib.ListN.{length}
use Rattle.downgraded_field.specs.ShownLaws.{Counting}
use Rattle.downgraded_field.proofs.refusal.check_turns.Given as goal

abbrev pub invariant-loop-turn : goal.invariant-loop-turn
invariant-loop-turn l = Counting l.s l.found l.length l.rest l.after

abbrev pub decreases-loop-turn : goal.decreases-loop-turn
decreases-loop-turn l = length l.rest
