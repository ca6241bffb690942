use Rattle.std.proofs.Common.{refl, sym, ap, ◌∙◌, arith}
use Rattle.parameter.specs.ParameterLaws.{param_part}
use Rattle.parameter.specs.FirstLaws.{first_step, first_here, first_end}
use Rattle.parameter.proofs.tail.first.Goals as goal

pub loop-i-init : goal.loop-i-init
loop-i-init g c = refl

pub returns-then-holds : goal.returns-then-holds
returns-then-holds g c = sym (c.loop-i.invariant ∙ first_here g.T.Test.meets _ _ c.loop-i-test.true (ap g.T.Test.meets (sym (c.part.ensures ∙ param_part _ _ _ c.param_end-end.ensures)) ∙ sym c.holds.ensures ∙ c.if-holds.true))

pub loop-i-smaller : goal.loop-i-smaller
loop-i-smaller g c = omega (arith, c.param_end-end.ensures)

pub loop-i-preserved : goal.loop-i-preserved
loop-i-preserved g c = c.loop-i.invariant ∙ first_step g.T.Test.meets _ _ _ c.param_end-end.ensures c.loop-i-test.true (ap g.T.Test.meets (sym (c.part.ensures ∙ param_part _ _ _ c.param_end-end.ensures)) ∙ sym c.holds.ensures ∙ c.if-holds.false)

pub returns : goal.returns
returns g c = sym (c.loop-i.invariant ∙ first_end g.T.Test.meets _ _ c.loop-i-test.false)
