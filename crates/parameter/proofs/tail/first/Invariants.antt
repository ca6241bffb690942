use Rattle.std.proofs.Common.{◌≡◌, ◌-◌, length, drop}
use Rattle.parameter.specs.Parameter.{params}
use Rattle.parameter.specs.First.{first_of}
use Rattle.parameter.proofs.tail.first.Given as goal

abbrev pub invariant-loop-i : goal.invariant-loop-i
invariant-loop-i g l = first_of g.T.Test.meets l.at (params (drop l.at l.line)) ≡ first_of g.T.Test.meets l.i (params (drop l.i l.line))

abbrev pub decreases-loop-i : goal.decreases-loop-i
decreases-loop-i g l = length l.line - l.i
