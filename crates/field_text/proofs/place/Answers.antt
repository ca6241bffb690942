use Rattle.field_text.specs.TextLaws.{place_short, place_folded, place_there}
use Rattle.header.specs.FieldLaws.{name_le}
use native.Mathlib.Omega.{arith}
use Rattle.field_text.proofs.place.Goals as goal

pub overflow_sub-field : goal.overflow_sub-field
overflow_sub-field c = omega (arith, c.name_len-n.ensures, name_le c.args.field.now)

pub returns-then-field-n-lt3 : goal.returns-then-field-n-lt3
returns-then-field-n-lt3 c = place_short _ _ c.name_len-n.ensures c.if-field-n-lt3.true

pub returns-then-next_cr-to : goal.returns-then-next_cr-to
returns-then-next_cr-to c = place_folded _ _ c.name_len-n.ensures c.if-field-n-lt3.false _ c.next_cr.ensures c.if-next_cr-to.true

pub returns : goal.returns
returns c = place_there _ _ c.name_len-n.ensures c.if-field-n-lt3.false _ _ c.next_cr.ensures c.if-next_cr-to.false c.blanks_end.ensures
