use Rattle.std.proofs.Common.{sym, ◌∙◌, arith}
use Rattle.case_line.specs.CaseLineLaws.{decimal_more, decimal_end}
use Rattle.case_line.proofs.number.Goals as goal

pub loop-i-preserved : goal.loop-i-preserved
loop-i-preserved c = (omega arith, rw (c.clip-n.ensures, c.from.ensures) (sym (decimal_more _ _ _ _ c.loop-i-test.true c.value.ensures.0) ∙ c.loop-i.invariant.1))

pub returns : goal.returns
returns c = sym (decimal_end _ _ _ c.loop-i-test.false) ∙ c.loop-i.invariant.1
