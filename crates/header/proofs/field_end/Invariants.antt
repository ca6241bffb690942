use mathlib.Core.Path.{◌≡◌}
use Prim.Native.Nat.{◌+◌, ◌-◌}
use lib.ListN.{length, drop}
use Rattle.header.specs.Fields.{field_len}
use Rattle.header.proofs.field_end.Given as goal

abbrev pub invariant-loop-i : goal.invariant-loop-i
invariant-loop-i l = l.at + field_len (drop l.at l.h) ≡ l.i + field_len (drop l.i l.h)

abbrev pub decreases-loop-i : goal.decreases-loop-i
decreases-loop-i l = length l.h - l.i
