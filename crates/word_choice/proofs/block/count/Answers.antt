use Rattle.std.proofs.Common.{◌∙◌, ap, arith, get_or}
use Rattle.word_choice.specs.Block.{bit}
use Rattle.word_choice.specs.BlockLaws.{count_none, count_next, from_bit, bit_le}
use Rattle.word_choice.proofs.block.count.Goals as goal

pub loop-b-init : goal.loop-b-init
loop-b-init g c = (count_none _ c.args.s.now, omega arith)

pub loop-b-preserved : goal.loop-b-preserved
loop-b-preserved g c =
    let f = g.C.Class.member in
    let one = c.from-n.ensures ∙ from_bit c.holds.result ∙ ap bit c.holds.ensures in (
      count_next f c.args.s.now c.loop-b.b-index _ _ c.loop-b-test.true c.loop-b.invariant.0 one,
      omega (arith, one, bit_le (f (get_or c.args.s.now c.loop-b.b-index 0)), c.loop-b.invariant.1),
    )
