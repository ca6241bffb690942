use Rattle.std.proofs.Common.{sym, ◌∙◌}
use Rattle.field_text.specs.TextLaws.{step_end, step_blank, step_fold, step_none}
use Rattle.field_text.proofs.blank_size.Goals as goal

pub returns-in_err-b : goal.returns-in_err-b
returns-in_err-b c = rw c.from_residual.ensures (step_end _ _ c.in_err-b.ensures.lookup.3)

pub returns-then-is_blank : goal.returns-then-is_blank
returns-then-is_blank c = let there = c.in_ok-b.ensures.lookup in step_blank _ _ there.3.0 (rw (there.3.1 0) at (sym c.is_blank.ensures ∙ c.if-is_blank.true))

pub returns-then-fold_at : goal.returns-then-fold_at
returns-then-fold_at c = step_fold _ _ c.in_ok-b.ensures.lookup.3.0 (sym c.fold_at.ensures ∙ c.if-fold_at.true)

pub returns : goal.returns
returns c = let there = c.in_ok-b.ensures.lookup in step_none _ _ there.3.0 (rw (there.3.1 0) at (sym c.is_blank.ensures ∙ c.if-is_blank.false)) (sym c.fold_at.ensures ∙ c.if-fold_at.false)
