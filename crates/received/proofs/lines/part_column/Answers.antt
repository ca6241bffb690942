use mathlib.Core.Path.{sym, ◌∙◌}
use Rattle.received.specs.CommentLinesLaws.{part_ascii, part_encoded}
use borrow.Author.Rules.{rules}
use Rattle.received.proofs.lines.part_column.Goals as goal

pub returns-then-is_ascii : goal.returns-then-is_ascii
returns-then-is_ascii c = part_ascii _ _ (sym c.is_ascii.ensures ∙ c.if-is_ascii.true) c.column_after.ensures

pub returns : goal.returns
returns c = part_encoded _ _ (sym c.is_ascii.ensures ∙ c.if-is_ascii.false) c.column_after-2.ensures
