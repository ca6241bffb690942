use Rattle.mime_parameter.specs.WritingLaws.{bare_added, octet_sliced}
use native.Mathlib.Omega.{arith}
use Rattle.mime_parameter.proofs.bytes.add_extended_byte.Goals as goal

pub returns-then-is_attribute_char : goal.returns-then-is_attribute_char
returns-then-is_attribute_char c = bare_added _ c.is_attribute_char.ensures c.if-is_attribute_char.true c.add_byte.ensures

pub returns : goal.returns
returns c = octet_sliced _ c.is_attribute_char.ensures c.if-is_attribute_char.false (omega arith) c.digit-high.ensures c.digit-low.ensures c.add_slice.ensures
