use Rattle.std.proofs.Common.{sym, ◌∙◌, arith, refl}
use Rattle.header_line.specs.LineLaws.{left_end}
use Rattle.header_line.specs.CleanLaws.{lines_all, line_inside, lines_bad, lines_next}
use Rattle.header_line.proofs.check_clean.Goals as goal

pub loop-at-init : goal.loop-at-init
loop-at-init c = lines_all c.requires

pub slice_bounds-is_shaped-end : goal.slice_bounds-is_shaped-end
slice_bounds-is_shaped-end c =
    let k = line_inside c.requires c.loop-at-test.true c.loop-at.invariant (rw c.in-Some.is at c.find_cr-step.ensures) refl in
    omega (arith, k.1)

pub returns-then-not-is_shaped : goal.returns-then-not-is_shaped
returns-then-not-is_shaped c =
    lines_bad c.requires c.loop-at-test.true c.loop-at.invariant (rw c.in-Some.is at c.find_cr-step.ensures) refl (sym c.is_shaped.ensures ∙ c.if-not-is_shaped.true)

pub loop-at-preserved-in-Some : goal.loop-at-preserved-in-Some
loop-at-preserved-in-Some c =
    lines_next c.requires c.loop-at-test.true c.loop-at.invariant (rw c.in-Some.is at c.find_cr-step.ensures) refl (sym c.is_shaped.ensures ∙ c.if-not-is_shaped.false)

pub returns : goal.returns
returns c = left_end c.loop-at.invariant.left c.loop-at-test.false
