use Prim.Native.Nat.{◌-◌}
use lib.ListN.{length}
use Rattle.header_line.specs.LineLaws.{Left}
use Rattle.header_line.proofs.check_slowly.Given as goal

abbrev pub invariant-loop-at : goal.invariant-loop-at
invariant-loop-at l = Left l.h l.n l.at

abbrev pub decreases-loop-at : goal.decreases-loop-at
decreases-loop-at l = length l.h - l.at
