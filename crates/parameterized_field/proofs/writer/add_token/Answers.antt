use Rattle.parameterized_field.specs.WritingLaws.{comment_added, token_added}
use native.Mathlib.Omega.{arith}
use borrow.Author.Rules.{rules}
use Rattle.parameterized_field.proofs.writer.add_token.Goals as goal

pub returns-then-is_comment : goal.returns-then-is_comment
returns-then-is_comment c = comment_added c.args.kind _ c.is_comment.ensures c.args.fresh (omega arith) c.add_new_line-next.ensures c.if-is_comment.true _ c.requires c.add_comment.ensures

pub returns : goal.returns
returns c = token_added c.args.kind _ c.is_comment.ensures c.args.fresh (omega arith) c.add_new_line-next.ensures c.if-is_comment.false c.add_slice.ensures
