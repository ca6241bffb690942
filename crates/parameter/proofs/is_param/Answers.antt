use Rattle.parameter.specs.ParameterLaws.{keyword_le, param_empty, param_hyphen, param_bare, param_unequal, param_no_value, param_value}
use native.Mathlib.Omega.{arith}
use Rattle.parameter.proofs.is_param.Goals as goal

pub returns-then-k-eq0 : goal.returns-then-k-eq0
returns-then-k-eq0 c = param_empty _ _ c.keyword_len-k.ensures c.if-k-eq0.true

pub bounds-p-0 : goal.bounds-p-0
bounds-p-0 c = omega (arith, keyword_le c.args.p.now _ c.keyword_len-k.ensures)

pub returns-then-p-eq45 : goal.returns-then-p-eq45
returns-then-p-eq45 c = param_hyphen _ _ c.keyword_len-k.ensures c.if-k-eq0.false c.if-p-eq45.true

pub returns-then-p-k : goal.returns-then-p-k
returns-then-p-k c = param_bare _ _ c.keyword_len-k.ensures c.if-k-eq0.false c.if-p-eq45.false c.if-p-k.true

pub returns-then-p-k-ne61 : goal.returns-then-p-k-ne61
returns-then-p-k-ne61 c = param_unequal _ _ c.keyword_len-k.ensures c.if-k-eq0.false c.if-p-eq45.false c.if-p-k.false c.if-p-k-ne61.true

pub returns-then-p-start : goal.returns-then-p-start
returns-then-p-start c = param_no_value _ _ c.keyword_len-k.ensures c.if-k-eq0.false c.if-p-eq45.false c.if-p-k.false c.if-p-k-ne61.false c.if-p-start.true

pub returns : goal.returns
returns c = param_value _ _ c.keyword_len-k.ensures c.if-k-eq0.false c.if-p-eq45.false c.if-p-k.false c.if-p-k-ne61.false c.if-p-start.false c.part.ensures c.is_orcpt.ensures c.is_value.ensures
