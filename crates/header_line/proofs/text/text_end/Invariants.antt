use Prim.Native.Nat.{◌-◌}
use lib.ListN.{length}
use Rattle.header_line.specs.LineLaws.{Passed}
use Rattle.header_line.proofs.text.text_end.Given as goal

abbrev pub invariant-loop-next : goal.invariant-loop-next
invariant-loop-next l = Passed l.h l.at l.i

abbrev pub decreases-loop-next : goal.decreases-loop-next
decreases-loop-next l = length l.h - l.i
