use Rattle.mime_parameter.specs.WritingLaws.{bare_len, octet_len}
use Rattle.mime_parameter.proofs.bytes.byte_len.Goals as goal

pub returns-then-is_attribute_char : goal.returns-then-is_attribute_char
returns-then-is_attribute_char c = bare_len _ c.is_attribute_char.ensures c.if-is_attribute_char.true

pub returns-else-is_attribute_char : goal.returns-else-is_attribute_char
returns-else-is_attribute_char c = octet_len _ c.is_attribute_char.ensures c.if-is_attribute_char.false
