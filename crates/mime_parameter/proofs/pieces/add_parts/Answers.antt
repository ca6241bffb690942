use Rattle.mime_parameter.specs.PartLaws.{laid_next, laid_end}
use Rattle.buffer.specs.BufferLaws.{capped_start, capped_turn, capped_end}
use native.Mathlib.Omega.{arith}
use Rattle.mime_parameter.proofs.pieces.add_parts.Goals as goal

pub loop-i-init : goal.loop-i-init
loop-i-init c = (omega arith, capped_start _ _ _ (omega arith))

pub loop-i-preserved : goal.loop-i-preserved
loop-i-preserved c = (omega (arith, c.loop-i.invariant.0, c.part_end-end.ensures.ahead), capped_turn c.loop-i.invariant.1 (laid_next _ _ _ c.part_end-end.ensures) c.add_part-next.ensures (omega arith))

pub returns : goal.returns
returns c = capped_end c.loop-i.invariant.1 (laid_end _ _ _ _ c.loop-i-test.false)
