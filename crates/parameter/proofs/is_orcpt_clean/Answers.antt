use Rattle.parameter.specs.ParameterLaws.{value_part, orcpt_other, orcpt_value}
use borrow.Author.Tests.{not-true, not-false}
use mathlib.Core.Path.{sym, ◌∙◌}
use Rattle.parameter.proofs.is_orcpt_clean.Goals as goal

pub returns-then-not-is_orcpt : goal.returns-then-not-is_orcpt
returns-then-not-is_orcpt c = orcpt_other _ (sym c.is_orcpt.ensures ∙ not-true _ c.if-not-is_orcpt.true-raw)

pub returns : goal.returns
returns c = orcpt_value _ (sym c.is_orcpt.ensures ∙ not-false _ c.if-not-is_orcpt.false-raw) (value_part _ _ c.part.ensures c.value_start.ensures.1) c.is_ascii.ensures
