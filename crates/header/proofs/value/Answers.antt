use Rattle.header.specs.FieldLaws.{value_none, value_part, name_le}
use native.Mathlib.Omega.{arith}
use mathlib.Core.Path.{◌∙◌}
use Rattle.header.proofs.value.Goals as goal

pub overflow_add-n : goal.overflow_add-n
overflow_add-n c = omega (arith, c.name_len-n.ensures, name_le c.args.field.now)

pub returns-then-field-n : goal.returns-then-field-n
returns-then-field-n c = c.part.ensures ∙ value_none _ _ c.name_len-n.ensures c.if-field-n.true

pub returns : goal.returns
returns c = c.part-2.ensures ∙ value_part _ _ c.name_len-n.ensures
