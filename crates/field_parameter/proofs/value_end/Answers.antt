use Rattle.std.proofs.Common.{sym, ◌∙◌, arith}
use Rattle.field_parameter.specs.ParameterLaws.{none_here, ends_here, value_none, value_run, value_unclosed, value_closed}
use Rattle.field_parameter.proofs.value_end.Goals as goal

pub returns-then-s-at : goal.returns-then-s-at
returns-then-s-at c = none_here _ _ (value_none _ _ c.if-s-at.true)

pub returns-then-at-end : goal.returns-then-at-end
returns-then-at-end c = ends_here _ _ (value_run _ _ c.if-s-at.false c.if-s-at-ne34.true _ c.run_end-end.ensures) c.if-at-end.true

pub returns-else-at-end : goal.returns-else-at-end
returns-else-at-end c = let e = value_run _ _ c.if-s-at.false c.if-s-at-ne34.true _ c.run_end-end.ensures in none_here _ _ (omega (arith, e))

pub returns-then-s-end : goal.returns-then-s-end
returns-then-s-end c = none_here _ _ (value_unclosed _ _ c.if-s-at.false c.if-s-at-ne34.false _ c.quote_at-end.ensures c.if-s-end.true)

pub returns : goal.returns
returns c = ends_here _ _ (value_closed _ _ c.if-s-at.false c.if-s-at-ne34.false _ c.quote_at-end.ensures c.if-s-end.false) (omega (arith, c.quote_at-end.ensures))
