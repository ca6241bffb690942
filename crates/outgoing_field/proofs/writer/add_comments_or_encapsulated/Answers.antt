use mathlib.Core.Path.{sym, ◌∙◌}
use Rattle.outgoing_field.proofs.FateLaws.{comments_encoded, comments_encapsulated}
use borrow.Author.Rules.{rules}
use Rattle.outgoing_field.proofs.writer.add_comments_or_encapsulated.Goals as goal

pub returns-then-ascii_outside_comments : goal.returns-then-ascii_outside_comments
returns-then-ascii_outside_comments c = comments_encoded _ c.requires (sym c.ascii_outside_comments.ensures ∙ c.if-ascii_outside_comments.true) c.add_field.ensures

pub returns : goal.returns
returns c = comments_encapsulated _ c.requires (sym c.ascii_outside_comments.ensures ∙ c.if-ascii_outside_comments.false) c.add_encoded.ensures
