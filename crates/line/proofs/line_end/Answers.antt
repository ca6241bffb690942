use native.Mathlib.Omega.{arith}
use mathlib.Core.Path.{sym, ◌∙◌}
use borrow.Author.Tests.{eq-eqb, ne_eqb}
use Rattle.line.specs.LineLaws.{line_past, line_next_cr, cr_there, line_here, line_lone_cr}
use Rattle.line.proofs.line_end.Goals as goal

pub returns-then-s-at : goal.returns-then-s-at
returns-then-s-at c = sym (line_past _ _ c.if-s-at.true)

pub loop-i-init : goal.loop-i-init
loop-i-init c = (line_next_cr c.args.s.now _ _ c.next_cr-i.ensures, cr_there c.args.s.now _ _ c.next_cr-i.ensures)

pub returns-then-byte_at-eq10 : goal.returns-then-byte_at-eq10
returns-then-byte_at-eq10 c = sym (c.loop-i.invariant.0 ∙ line_here _ _ (c.loop-i.invariant.1 c.loop-i-test.true) (eq-eqb _ _ (sym c.byte_at.ensures ∙ c.if-byte_at-eq10.true)))

pub loop-i-smaller : goal.loop-i-smaller
loop-i-smaller c = omega (arith, c.next_cr-i-in-loop-i.ensures)

pub loop-i-preserved : goal.loop-i-preserved
loop-i-preserved c = (c.loop-i.invariant.0 ∙ line_lone_cr _ _ c.loop-i-test.true (ne_eqb _ _ (λ e. c.if-byte_at-eq10.false (c.byte_at.ensures ∙ e))) ∙ line_next_cr c.args.s.now _ _ c.next_cr-i-in-loop-i.ensures, cr_there c.args.s.now _ _ c.next_cr-i-in-loop-i.ensures)

pub returns : goal.returns
returns c = sym (c.loop-i.invariant.0 ∙ line_past _ _ c.loop-i-test.false)
