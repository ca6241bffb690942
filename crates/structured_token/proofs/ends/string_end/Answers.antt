use mathlib.Core.Path.{sym, ◌∙◌}
use native.Mathlib.Omega.{arith}
use Rattle.structured_token.proofs.TokensLaws.{string_start, string_over, string_unclosed, string_closed, string_escaped}
use Rattle.structured_token.proofs.ends.string_end.Goals as goal

pub loop-i-init : goal.loop-i-init
loop-i-init c = (string_start _ _ c.requires, omega arith)

pub returns-then-s-p : goal.returns-then-s-p
returns-then-s-p c = sym (c.loop-i.invariant.0 ∙ sym (string_unclosed _ _ _ c.run_end-p.ensures c.if-s-p.true))

pub returns-then-s-p-eq34 : goal.returns-then-s-p-eq34
returns-then-s-p-eq34 c = string_closed _ _ _ c.run_end-p.ensures c.if-s-p.false c.if-s-p-eq34.true ∙ sym c.loop-i.invariant.0

pub loop-i-smaller : goal.loop-i-smaller
loop-i-smaller c = omega (arith, c.run_end-p.ensures)

pub loop-i-preserved : goal.loop-i-preserved
loop-i-preserved c = (c.loop-i.invariant.0 ∙ string_escaped _ _ _ c.run_end-p.ensures c.if-s-p.false c.if-s-p-eq34.false, omega (arith, c.run_end-p.ensures))

pub returns : goal.returns
returns c = sym (c.loop-i.invariant.0 ∙ string_over _ _ c.loop-i-test.false)
