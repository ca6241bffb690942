use Rattle.field_text.specs.TextLaws.{Skipped}
use lib.ListN.{length}
use Prim.Native.Nat.{◌-◌}
use Rattle.field_text.proofs.text_start.Given as goal

abbrev pub invariant-loop-n : goal.invariant-loop-n
invariant-loop-n l = Skipped l.value l.i

abbrev pub decreases-loop-n : goal.decreases-loop-n
decreases-loop-n l = length l.value - l.i
