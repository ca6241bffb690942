use mathlib.Core.Path.{sym, ◌∙◌}
use borrow.Author.Rules.{rules}
use Rattle.comment.proofs.PartsLaws.{part_over, part_paren, part_run}
use Rattle.comment.proofs.parts.part_end.Goals as goal

pub returns-then-s-at : goal.returns-then-s-at
returns-then-s-at c = sym (part_over _ _ c.if-s-at.true)

pub returns-then-b : goal.returns-then-b
returns-then-b c = sym (part_paren _ _ c.if-s-at.false c.if-b.true)

pub returns : goal.returns
returns c = c.run_end.ensures ∙ sym (part_run _ _ c.if-s-at.false c.if-b.false)
