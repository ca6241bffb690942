use Rattle.std.proofs.Common.{◌≡◌, length, take}
use Rattle.buffer.specs.Buffer.{overlay}
use Rattle.buffer.proofs.put_slice.Given as goal

abbrev pub invariant-loop-i : goal.invariant-loop-i
invariant-loop-i l = (length l.out ≡ length l.initial.out) × (l.out ≡ overlay (take l.i l.src) l.initial.out)
