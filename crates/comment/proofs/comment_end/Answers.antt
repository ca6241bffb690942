use mathlib.Core.Path.{◌∙◌}
use Rattle.comment.proofs.CommentLaws.{comment_over, comment_other, comment_ends}
use Rattle.comment.proofs.comment_end.Goals as goal

pub returns-then-s-at : goal.returns-then-s-at
returns-then-s-at c = comment_over _ _ c.if-s-at.true

pub returns-then-s-at-ne40 : goal.returns-then-s-at-ne40
returns-then-s-at-ne40 c = comment_other _ _ c.if-s-at.false c.if-s-at-ne40.true

pub returns : goal.returns
returns c = c.inside.ensures ∙ comment_ends _ _ c.if-s-at.false c.if-s-at-ne40.false
