use Rattle.row.specs.Row.{row}
use Rattle.buffer.specs.Buffer.{ReachedCapped}
use lib.ListN.{length, drop}
use Prim.Native.Nat.{◌-◌, ◌≤◌}
use mathlib.Core.Path.{◌≡◌}
use Rattle.encoded_word.proofs.lines.add_lines.Given as goal

abbrev pub invariant-loop-i : goal.invariant-loop-i
invariant-loop-i l = (l.i ≤ length l.text) × (length l.piece ≡ 78) × ReachedCapped (row (drop l.begin l.text)) (row (drop l.i l.text)) l.start l.initial.out l.out l.at

abbrev pub decreases-loop-i : goal.decreases-loop-i
decreases-loop-i l = length l.text - l.i
