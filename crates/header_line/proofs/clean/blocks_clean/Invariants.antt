use Rattle.header_line.specs.Clean.{line_placed}
use Rattle.utf8.specs.WindowLaws.{Clear}
use Rattle.utf8.specs.Window.{window_at}
use lib.ListN.{length}
use Prim.Native.Nat.{◌-◌, ◌+◌, ◌≤◌}
use Rattle.header_line.proofs.clean.blocks_clean.Given as goal

abbrev pub invariant-loop-at : goal.invariant-loop-at
invariant-loop-at l = (l.at + 3 ≤ length l.h) × Clear (window_at line_placed l.h) l.at

abbrev pub decreases-loop-at : goal.decreases-loop-at
decreases-loop-at l = l.last - l.at
