use Rattle.field_text.specs.TextLaws.{Unfolding}
use lib.ListN.{length}
use Prim.Native.Nat.{◌-◌}
use Rattle.field_text.proofs.put_unfolded.Given as goal

abbrev pub invariant-loop-i : goal.invariant-loop-i
invariant-loop-i l = Unfolding l.s l.i l.initial.out l.out l.at

abbrev pub decreases-loop-i : goal.decreases-loop-i
decreases-loop-i l = length l.s - l.i
