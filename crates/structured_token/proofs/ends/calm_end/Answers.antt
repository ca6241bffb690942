use Rattle.std.proofs.Common.{sym, ◌∙◌, arith}
use Rattle.structured_token.proofs.TokensLaws.{calm_step, calm_stop, calm_over}
use Rattle.structured_token.proofs.ends.calm_end.Goals as goal

pub returns-then-s-at : goal.returns-then-s-at
returns-then-s-at c = sym (calm_over _ _ c.if-s-at.true)

pub returns-then-not-is_calm : goal.returns-then-not-is_calm
returns-then-not-is_calm c = sym (c.loop-i.invariant ∙ calm_stop _ _ c.loop-i-test.true (sym c.is_calm.ensures ∙ c.if-not-is_calm.true))

pub loop-i-preserved : goal.loop-i-preserved
loop-i-preserved c = c.loop-i.invariant ∙ calm_step _ _ c.loop-i-test.true (sym c.is_calm.ensures ∙ c.if-not-is_calm.false)

pub returns : goal.returns
returns c = let e = c.loop-i.invariant ∙ calm_over _ _ c.loop-i-test.false in omega arith
