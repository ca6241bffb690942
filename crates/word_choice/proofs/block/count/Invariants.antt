use Rattle.word_choice.specs.Block.{count}
use Rattle.std.proofs.Common.{◌≡◌, ◌≤◌, take}
use Rattle.word_choice.proofs.block.count.Given as goal

abbrev pub invariant-loop-b : goal.invariant-loop-b
invariant-loop-b g l = (l.n ≡ count g.C.Class.member (take l.b-index l.s)) × (l.n ≤ l.b-index)
