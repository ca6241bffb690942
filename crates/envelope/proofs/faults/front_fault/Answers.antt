use Rattle.envelope.proofs.CheckLaws.{front_no_cr, front_in, front_no_lf, front_line_lem}
use native.Mathlib.Omega.{arith}
use mathlib.Core.Path.{sym, ◌∙◌}
use Rattle.envelope.proofs.faults.front_fault.Goals as goal

pub returns-then-byte_at-ne13 : goal.returns-then-byte_at-ne13
returns-then-byte_at-ne13 c = front_no_cr _ _ _ c.requires _ _ (λ e. c.if-byte_at-ne13.true (c.byte_at.ensures ∙ e))

pub overflow_add-end : goal.overflow_add-end
overflow_add-end c = omega (arith, front_in c.args.envelope.now c.args.at c.args.end c.requires c.args.mail (sym c.byte_at.ensures ∙ c.if-byte_at-ne13.false))

pub returns-then-byte_at-ne10 : goal.returns-then-byte_at-ne10
returns-then-byte_at-ne10 c = front_no_lf _ _ _ c.requires _ (sym c.byte_at.ensures ∙ c.if-byte_at-ne13.false) _ (λ e. c.if-byte_at-ne10.true (c.byte_at-2.ensures ∙ e))

pub returns : goal.returns
returns c = front_line_lem _ _ _ c.requires _ (sym c.byte_at.ensures ∙ c.if-byte_at-ne13.false) _ (sym c.byte_at-2.ensures ∙ c.if-byte_at-ne10.false) c.part.ensures c.line_fault.ensures
