use mathlib.Core.Path.{sym, ◌∙◌}
use Rattle.received.proofs.PassesLaws.{column_same, column_none}
use Rattle.received.specs.TokenLaws.{bytes_comment, clause_stays, clause_removed, bytes_kept}
use borrow.Author.Rules.{rules}
use Rattle.received.proofs.lines.token_column.Goals as goal

pub returns-in-Comment : goal.returns-in-Comment
returns-in-Comment c = column_same _ c.comment_column.ensures (bytes_comment _ _ c.in-Comment.is)

pub returns-then-is_ascii : goal.returns-then-is_ascii
returns-then-is_ascii c = column_same _ c.column_after.ensures (clause_stays _ _ c.in-Clause.is (sym c.is_ascii.ensures ∙ c.if-is_ascii.true))

pub returns-else-is_ascii : goal.returns-else-is_ascii
returns-else-is_ascii c = column_none _ (clause_removed _ _ c.in-Clause.is (sym c.is_ascii.ensures ∙ c.if-is_ascii.false))

pub returns-in-BareFor : goal.returns-in-BareFor
returns-in-BareFor c = column_same _ c.column_after-in-BareFor.ensures (bytes_kept _ _ c.in-BareFor.is)
