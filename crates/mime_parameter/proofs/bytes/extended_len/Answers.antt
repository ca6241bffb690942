use Rattle.mime_parameter.specs.WritingLaws.{len_next}
use Rattle.mime_parameter.specs.ExtendedLaws.{extended_end}
use native.Mathlib.Omega.{arith}
use mathlib.Core.Path.{ap}
use lib.ListN.{length}
use Rattle.mime_parameter.proofs.bytes.extended_len.Goals as goal

pub loop-b-preserved : goal.loop-b-preserved
loop-b-preserved c = (omega (arith, c.byte_len-n.ensures.1), omega arith, len_next _ _ _ _ _ c.loop-b-test.true c.loop-b.invariant.2 c.byte_len-n.ensures.0)

pub returns : goal.returns
returns c = omega (arith, c.loop-b.invariant.2, ap length (extended_end c.args.text.now c.loop-b.b-index c.loop-b-test.false))
