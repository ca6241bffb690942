use Rattle.structured_field.specs.WritingLaws.{token_comment, token_stays}
use Rattle.buffer.specs.BufferLaws.{capped_same}
use borrow.Author.Rules.{rules}
use Rattle.structured_field.proofs.writer.add_token.Goals as goal

pub returns-then-is_comment : goal.returns-then-is_comment
returns-then-is_comment c = capped_same (token_comment _ _ c.is_comment.ensures c.if-is_comment.true) c.add_parts.ensures

pub returns : goal.returns
returns c = capped_same (token_stays _ _ c.is_comment.ensures c.if-is_comment.false) c.add_slice.ensures
