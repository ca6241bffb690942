use Rattle.std.proofs.Common.{sym, ◌∙◌, arith}
use Rattle.downgraded_field.specs.FormedLaws.{formed_bad, formed_start, formed_end, formed_blank, formed_line, formed_next, formed_more}
use Rattle.downgraded_field.proofs.is_formed.Goals as goal

pub returns-in_default : goal.returns-in_default
returns-in_default c = formed_bad _ c.in_default.ensures

pub loop-at-init : goal.loop-at-init
loop-at-init c = formed_start _ c.in-Some.ensures

pub returns-then-not-is_blank : goal.returns-then-not-is_blank
returns-then-not-is_blank c = formed_blank c.loop-at.invariant c.loop-at-test.true (sym c.is_blank.ensures ∙ c.if-not-is_blank.true)

pub returns-in_default-line_after : goal.returns-in_default-line_after
returns-in_default-line_after c = formed_line c.loop-at.invariant c.loop-at-test.true c.in_default-line_after.ensures

pub loop-at-smaller : goal.loop-at-smaller
loop-at-smaller c = omega (arith, formed_more c.loop-at.invariant c.loop-at-test.true c.in-Some-line_after.ensures)

pub loop-at-preserved : goal.loop-at-preserved
loop-at-preserved c = formed_next c.loop-at.invariant c.loop-at-test.true c.in-Some-line_after.ensures (sym c.is_blank.ensures ∙ c.if-not-is_blank.false)

pub returns : goal.returns
returns c = formed_end c.loop-at.invariant c.loop-at-test.false
