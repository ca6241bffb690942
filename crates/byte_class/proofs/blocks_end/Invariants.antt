use Rattle.std.proofs.Common.{◌≡◌, ◌+◌, ◌-◌, ◌≤◌, length, drop}
use Rattle.lists.specs.Run.{run}
use Rattle.byte_class.proofs.blocks_end.Given as goal

abbrev pub invariant-loop-block : goal.invariant-loop-block
invariant-loop-block g l = (length l.rest ≤ length l.s) × (l.rest ≡ drop (length l.s - length l.rest) l.s) × (run g.C.Class.member l.s ≡ length l.s - length l.rest + run g.C.Class.member l.rest)

abbrev pub decreases-loop-block : goal.decreases-loop-block
decreases-loop-block g l = length l.rest
