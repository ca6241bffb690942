use Rattle.word_choice.specs.EndInQLaws.{SoFarInQ}
use lib.ListN.{length}
use Prim.Native.Nat.{◌-◌}
use Rattle.row_length.proofs.in_q.Given as goal

abbrev pub invariant-loop-e : goal.invariant-loop-e
invariant-loop-e l = SoFarInQ l.room l.text l.e l.n

abbrev pub decreases-loop-e : goal.decreases-loop-e
decreases-loop-e l = length l.text - l.e
