use mathlib.Core.Path.{sym, ◌∙◌}
use Rattle.field_text.specs.TextLaws.{unbroken_none, unbroken_more, unbroken_run, piece_fold}
use Rattle.field_text.proofs.next_fold.Goals as goal

pub loop-i-init : goal.loop-i-init
loop-i-init c = unbroken_run (unbroken_none c.requires) c.next_cr-i.ensures

pub returns-then-fold_at : goal.returns-then-fold_at
returns-then-fold_at c = piece_fold c.loop-i.invariant (sym c.fold_at.ensures ∙ c.if-fold_at.true)

pub loop-i-preserved : goal.loop-i-preserved
loop-i-preserved c = unbroken_run (unbroken_more c.loop-i.invariant c.loop-i-test.true (sym c.fold_at.ensures ∙ c.if-fold_at.false)) c.next_cr-i-in-loop-i.ensures
