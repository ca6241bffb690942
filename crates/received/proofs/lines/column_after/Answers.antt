use Rattle.std.proofs.Common.{◌∙◌, sym, refl}
use Rattle.received.specs.LinesLaws.{column_step, column_over}
use Rattle.received.proofs.lines.column_after.Goals as goal

pub loop-b-init : goal.loop-b-init
loop-b-init c = refl

pub loop-b-preserved : goal.loop-b-preserved
loop-b-preserved c = c.loop-b.invariant ∙ column_step _ _ _ c.loop-b-test.true c.column_next-at.ensures

pub returns : goal.returns
returns c = sym (c.loop-b.invariant ∙ column_over _ _ _ c.loop-b-test.false)
