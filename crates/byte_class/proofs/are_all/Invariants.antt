use Rattle.std.proofs.Common.{◌≡◌, true, take}
use Rattle.lists.specs.Lists.{all}
use Rattle.byte_class.proofs.are_all.Given as goal

abbrev pub invariant-loop-b : goal.invariant-loop-b
invariant-loop-b g l = all g.C.Class.member (take l.b-index l.s) ≡ true
