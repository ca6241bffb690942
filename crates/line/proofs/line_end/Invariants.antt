use Prim.Native.Nat.{◌+◌, ◌-◌, ◌<◌}
use mathlib.Core.Path.{◌≡◌}
use lib.ListN.{length, drop, get_or}
use Rattle.line.specs.Line.{line_len}
use Rattle.line.proofs.line_end.Given as goal

abbrev pub invariant-loop-i : goal.invariant-loop-i
invariant-loop-i l = (l.at + line_len (drop l.at l.s) ≡ l.i + line_len (drop l.i l.s)) × (l.i < length l.s → get_or l.s l.i 0 ≡ 13)

abbrev pub decreases-loop-i : goal.decreases-loop-i
decreases-loop-i l = length l.s - l.i
