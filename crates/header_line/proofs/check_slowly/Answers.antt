use Rattle.std.proofs.Common.{◌≡◌, Err, ap, sym, ◌∙◌, arith, rules}
use Rattle.header_line.specs.declared.MalformedLine.{MalformedLine}
use Rattle.header_line.specs.LineLaws.{left_all, left_end, left_bad, left_next, line_bad, line_good}
use Rattle.header_line.proofs.check_slowly.Goals as goal

pub loop-at-init : goal.loop-at-init
loop-at-init c = left_all _

pub returns-in_err-at : goal.returns-in_err-at
returns-in_err-at c =
    let none = c.in_err-at.ensures.ok_part in
    let bad = left_bad c.loop-at.invariant c.loop-at-test.true (line_bad _ _ _ _ (sym none ∙ c.line_after.ensures)) in
    let same : c.from_residual.result ≡ Err c.in_err-at.field-0.0 = search rules in
    let is = rw none at c.in_err-at.ensures.value in
    let place : c.in_err-at.field-0.0 ≡ record { line = c.loop-at.n; at = c.loop-at.at } = cc in
    same ∙ ap (λ (m : MalformedLine). Err m) place ∙ bad

pub loop-at-smaller : goal.loop-at-smaller
loop-at-smaller c = let g = line_good _ _ _ _ (sym c.in_ok-at.ensures.ok_part ∙ c.line_after.ensures) in omega (arith, g.after, g.inside)

pub loop-at-preserved : goal.loop-at-preserved
loop-at-preserved c = left_next c.loop-at.invariant c.loop-at-test.true (line_good _ _ _ _ (sym c.in_ok-at.ensures.ok_part ∙ c.line_after.ensures))

pub returns : goal.returns
returns c = left_end c.loop-at.invariant c.loop-at-test.false
