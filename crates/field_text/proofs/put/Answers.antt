use native.Mathlib.Omega.{arith}
use Rattle.field_text.specs.TextLaws.{text_empty, text_value}
use Rattle.header.specs.FieldLaws.{name_le}
use Rattle.field_text.proofs.put.Goals as goal

pub overflow_sub-field : goal.overflow_sub-field
overflow_sub-field c = omega (arith, c.name_len-n.ensures, name_le c.args.field.now)

pub returns-then-field-n-lt3 : goal.returns-then-field-n-lt3
returns-then-field-n-lt3 c = text_empty c.args.field.now c.name_len-n.result c.name_len-n.ensures _ c.if-field-n-lt3.true

pub returns : goal.returns
returns c = text_value c.args.field.now c.name_len-n.result c.name_len-n.ensures c.put_value_text.ensures
