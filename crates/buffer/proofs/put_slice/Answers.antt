use Rattle.std.proofs.Common.{◌≡◌, refl, ◌∙◌, arith, length-set}
use Rattle.buffer.specs.BufferLaws.{overlay_turn, overlay_clip}
use Rattle.buffer.specs.Buffer.{overlay}
use Rattle.buffer.proofs.put_slice.Goals as goal

pub loop-i-init : goal.loop-i-init
unfolding overlay
loop-i-init c = (refl, refl)

pub loop-i-preserved : goal.loop-i-preserved
loop-i-preserved c = (simp length-set c.loop-i.invariant.0, overlay_turn _ _ _ _ _ c.clip-n.ensures c.loop-i-test.true c.loop-i.invariant.1)

pub returns : goal.returns
returns c = record { size = refl; bytes = c.loop-i.invariant.1 ∙ overlay_clip _ _ c.loop-i.i (omega arith) }
