use mathlib.Core.Path.{sym, ◌∙◌}
use Rattle.header.specs.FieldLaws.{field_run, field_stop, field_step, field_none}
use Rattle.header.proofs.field_end.Goals as goal

pub loop-i-init : goal.loop-i-init
loop-i-init c = field_run _ _ _ c.next_cr-i.ensures

pub returns-then-ends_at : goal.returns-then-ends_at
returns-then-ends_at c = sym (c.loop-i.invariant ∙ field_stop _ _ c.loop-i-test.true (sym c.ends_at.ensures ∙ c.if-ends_at.true))

pub loop-i-preserved : goal.loop-i-preserved
loop-i-preserved c = c.loop-i.invariant ∙ field_step _ _ c.loop-i-test.true (sym c.ends_at.ensures ∙ c.if-ends_at.false) ∙ field_run _ _ _ c.next_cr-i-in-loop-i.ensures

pub returns : goal.returns
returns c = sym (c.loop-i.invariant ∙ field_none _ _ c.loop-i-test.false)
