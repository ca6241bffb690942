use Rattle.std.proofs.Common.{refl, sym, ◌∙◌, arith}
use Rattle.group.proofs.TrimmedLaws.{content_next, content_here, content_over}
use Rattle.group.proofs.text.content.Goals as goal

pub loop-last-init : goal.loop-last-init
loop-last-init c = refl

pub returns-then-not-is_blank : goal.returns-then-not-is_blank
returns-then-not-is_blank c = content_here _ _ c.in-Some.ensures.cases.0 (sym c.is_blank.ensures ∙ c.if-not-is_blank.true) ∙ sym c.loop-last.invariant

pub loop-last-smaller : goal.loop-last-smaller
loop-last-smaller c = omega (arith, c.in-Some.ensures.cases.1)

pub loop-last-preserved : goal.loop-last-preserved
loop-last-preserved c = c.loop-last.invariant ∙ content_next _ _ c.in-Some.ensures.cases.0 (sym c.is_blank.ensures ∙ c.if-not-is_blank.false)

pub returns : goal.returns
returns c = content_over _ c.in_default.ensures.cases ∙ sym c.loop-last.invariant
