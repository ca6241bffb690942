use Rattle.word_choice.specs.BlockLaws.{placed_next}
use native.Mathlib.Omega.{arith}
use Rattle.word_choice.proofs.block.regular.Goals as goal

pub loop-k-preserved : goal.loop-k-preserved
loop-k-preserved c = (omega arith, omega arith, rw c.is_placed-ok.ensures (placed_next c.loop-k.k c.loop-k.invariant.0 c.loop-k.invariant.2))
