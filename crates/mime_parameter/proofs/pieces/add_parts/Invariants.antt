use Rattle.mime_parameter.specs.PartLaws.{parts_laid}
use Rattle.buffer.specs.Buffer.{ReachedCapped}
use Prim.Native.Nat.{◌-◌, ◌≤◌}
use lib.ListN.{length, drop}
use Rattle.mime_parameter.proofs.pieces.add_parts.Given as goal

abbrev pub invariant-loop-i : goal.invariant-loop-i
invariant-loop-i l = (l.k ≤ l.i) × ReachedCapped (parts_laid l.name 0 l.text) (parts_laid l.name l.k (drop l.i l.text)) l.at l.initial.out l.out l.next

abbrev pub decreases-loop-i : goal.decreases-loop-i
decreases-loop-i l = length l.text - l.i
