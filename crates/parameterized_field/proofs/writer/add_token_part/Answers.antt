use Rattle.std.proofs.Common.{refl, arith}
use Rattle.parameterized_field.specs.WritingLaws.{part_dropped, part_token}
use Rattle.parameterized_field.proofs.writer.add_token_part.Goals as goal

pub returns-then-is_dropped : goal.returns-then-is_dropped
returns-then-is_dropped c = part_dropped _ _ _ _ refl c.is_dropped.ensures c.if-is_dropped.true _ _ (omega arith)

pub returns : goal.returns
returns c = part_token _ _ _ _ refl c.is_dropped.ensures c.if-is_dropped.false c.is_semicolon.ensures c.add_token.ensures
