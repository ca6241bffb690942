use Rattle.encoded_word.specs.WritingLaws.{PutSoFar}
use lib.ListN.{length}
use Prim.Native.Nat.{◌-◌}
use Rattle.encoded_word.proofs.character.put_in_q.Given as goal

abbrev pub invariant-loop-i : goal.invariant-loop-i
invariant-loop-i l = PutSoFar l.room l.s l.start l.initial.out l.out l.i l.left l.at

abbrev pub decreases-loop-i : goal.decreases-loop-i
decreases-loop-i l = length l.s - l.i
