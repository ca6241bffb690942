use Prim.Native.Nat.{◌-◌}
use lib.ListN.{length}
use Rattle.field_text.specs.TextLaws.{Unbroken}
use Rattle.field_text.proofs.next_fold.Given as goal

abbrev pub invariant-loop-i : goal.invariant-loop-i
invariant-loop-i l = Unbroken l.s l.at l.i

abbrev pub decreases-loop-i : goal.decreases-loop-i
decreases-loop-i l = length l.s - l.i
