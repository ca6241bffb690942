use Rattle.std.proofs.Common.{length}
use Rattle.utf8.specs.Window.{placed}
use Rattle.utf8.specs.WindowLaws.{Passed}
use Rattle.utf8.proofs.blocks_placed.Given as goal

abbrev pub invariant-loop-block : goal.invariant-loop-block
invariant-loop-block l = Passed placed l.s l.rest

abbrev pub decreases-loop-block : goal.decreases-loop-block
decreases-loop-block l = length l.rest
