use Rattle.mime_parameter.specs.PartLaws.{char_ahead}
use Rattle.mime_parameter.specs.WritingLaws.{label_length}
use Rattle.mime_parameter.specs.PartLaws.{filling_start, filling_end, filling_full, filling_more, cost_small}
use native.Mathlib.Omega.{arith}
use Rattle.mime_parameter.proofs.pieces.part_end.Goals as goal

pub overflow_add-used : goal.overflow_add-used
overflow_add-used c = omega (arith, c.extended_len.ensures, cost_small c.args.text.now c.args.at c.char_end-first.result c.requires.1, c.part_label_len-label.ensures, label_length c.args.name.now c.args.k c.requires.0 c.requires.2)

pub loop-i-init : goal.loop-i-init
loop-i-init c = (omega (arith, c.extended_len.ensures, cost_small c.args.text.now c.args.at c.char_end-first.result c.requires.1, c.part_label_len-label.ensures, label_length c.args.name.now c.args.k c.requires.0 c.requires.2), filling_start _ _ _ _ _ c.extended_len.result _ c.requires.3 c.char_end-first.ensures c.extended_len.ensures (rw c.part_label_len-label.ensures))

pub overflow_add-more : goal.overflow_add-more
overflow_add-more c = omega (arith, c.extended_len-in-loop-i.ensures, cost_small c.args.text.now c.loop-i.i c.char_end-end.result c.requires.1, c.loop-i.invariant.0)

pub returns-then-more-gt74 : goal.returns-then-more-gt74
returns-then-more-gt74 c = filling_full _ _ _ _ c.loop-i.invariant.1 _ _ c.loop-i-test.true c.char_end-end.ensures c.extended_len-in-loop-i.ensures c.if-more-gt74.true

pub loop-i-smaller : goal.loop-i-smaller
loop-i-smaller c = omega (arith, char_ahead c.args.text.now c.loop-i.i c.char_end-end.result c.loop-i-test.true c.char_end-end.ensures, c.loop-i-test.true)

pub loop-i-preserved : goal.loop-i-preserved
loop-i-preserved c = (omega arith, filling_more _ _ _ _ c.loop-i.invariant.1 _ _ c.loop-i-test.true c.char_end-end.ensures c.extended_len-in-loop-i.ensures c.if-more-gt74.false)

pub returns : goal.returns
returns c = filling_end _ _ _ _ c.loop-i.invariant.1 c.loop-i-test.false
