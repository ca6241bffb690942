use Rattle.std.proofs.Common.{◌≡◌, ◌+◌, drop}
use Rattle.lists.specs.Run.{run}
use Rattle.byte_class.proofs.run_end.Given as goal

abbrev pub invariant-loop-i : goal.invariant-loop-i
invariant-loop-i g l = l.at + run g.C.Class.member (drop l.at l.s) ≡ l.i + run g.C.Class.member (drop l.i l.s)
