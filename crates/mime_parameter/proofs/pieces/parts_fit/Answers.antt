use Rattle.mime_parameter.specs.WritingLaws.{label_length}
use Rattle.mime_parameter.specs.PartLaws.{cost_small, fit_next, fit_fails, fit_end}
use mathlib.Core.Path.{sym, ◌∙◌}
use native.Mathlib.Omega.{arith}
use Rattle.mime_parameter.proofs.pieces.parts_fit.Goals as goal

pub overflow_add-part_label_len : goal.overflow_add-part_label_len
overflow_add-part_label_len c = omega (arith, c.extended_len.ensures, cost_small c.args.text.now c.loop-i.i c.part_end-end.result c.requires.1, c.part_label_len.ensures, label_length c.args.name.now c.loop-i.k c.requires.0 (omega (arith, c.loop-i.invariant.0, c.requires.1, c.loop-i-test.true)))

pub returns-then-part_label_len-extended_len-gt74 : goal.returns-then-part_label_len-extended_len-gt74
returns-then-part_label_len-extended_len-gt74 c = fit_fails _ _ _ c.part_end-end.ensures _ _ c.part_label_len.ensures c.extended_len.ensures c.if-part_label_len-extended_len-gt74.true ∙ c.loop-i.invariant.1

pub loop-i-preserved : goal.loop-i-preserved
loop-i-preserved c = (omega (arith, c.loop-i.invariant.0, c.part_end-end.ensures.ahead), sym (fit_next _ _ _ c.part_end-end.ensures _ _ c.part_label_len.ensures c.extended_len.ensures c.if-part_label_len-extended_len-gt74.false) ∙ c.loop-i.invariant.1)

pub returns : goal.returns
returns c = fit_end _ _ _ _ c.loop-i-test.false ∙ c.loop-i.invariant.1
