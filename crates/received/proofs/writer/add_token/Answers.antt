use mathlib.Core.Path.{sym, ◌∙◌}
use native.Mathlib.Omega.{arith}
use Rattle.buffer.specs.BufferLaws.{capped_same}
use Rattle.received.specs.TokenLaws.{clause_stays, clause_removed, bytes_kept}
use Rattle.received.proofs.WritingLaws.{token_comment, token_removed}
use borrow.Author.Rules.{rules}
use Rattle.received.proofs.writer.add_token.Goals as goal

pub returns-in-Comment : goal.returns-in-Comment
returns-in-Comment c = token_comment _ _ _ c.requires c.in-Comment.is c.add_comment.ensures

pub returns-then-is_ascii : goal.returns-then-is_ascii
returns-then-is_ascii c = capped_same (clause_stays _ _ c.in-Clause.is (sym c.is_ascii.ensures ∙ c.if-is_ascii.true)) c.add_slice.ensures

pub returns-else-is_ascii : goal.returns-else-is_ascii
returns-else-is_ascii c = token_removed _ _ (clause_removed _ _ c.in-Clause.is (sym c.is_ascii.ensures ∙ c.if-is_ascii.false)) (omega arith)

pub returns-in-BareFor : goal.returns-in-BareFor
returns-in-BareFor c = capped_same (bytes_kept _ _ c.in-BareFor.is) c.add_slice-in-BareFor.ensures
