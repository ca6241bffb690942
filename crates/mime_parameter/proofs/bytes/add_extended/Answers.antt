use Rattle.mime_parameter.specs.ExtendedLaws.{extended_at, extended_end}
use native.Mathlib.Omega.{arith}
use Rattle.buffer.specs.BufferLaws.{capped_start, capped_turn, capped_end}
use Rattle.mime_parameter.proofs.bytes.add_extended.Goals as goal

pub loop-b-init : goal.loop-b-init
loop-b-init c = capped_start _ _ _ (omega arith)

pub loop-b-preserved : goal.loop-b-preserved
loop-b-preserved c = capped_turn c.loop-b.invariant (extended_at _ _ c.loop-b-test.true) c.add_extended_byte-next.ensures (omega arith)

pub returns : goal.returns
returns c = capped_end c.loop-b.invariant (extended_end _ _ c.loop-b-test.false)
