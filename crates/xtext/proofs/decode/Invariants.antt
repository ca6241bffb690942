use Rattle.xtext.proofs.XtextLaws.{DecodedTo}
use lib.ListN.{length}
use Prim.Native.Nat.{◌-◌}
use Rattle.xtext.proofs.decode.Given as goal

abbrev pub invariant-loop-i : goal.invariant-loop-i
invariant-loop-i l = DecodedTo l.value l.i l.initial.out l.out l.n

abbrev pub decreases-loop-i : goal.decreases-loop-i
decreases-loop-i l = length l.value - l.i
