use Rattle.header.specs.AsciiFieldsLaws.{ascii_rest, ascii_up_to}
use Rattle.header.proofs.ascii_fields_end.Goals as goal

pub returns-then-h-high : goal.returns-then-h-high
returns-then-h-high c = ascii_rest _ _ _ c.ascii_end-high.ensures c.if-h-high.true

pub returns : goal.returns
returns c = ascii_up_to _ _ _ c.ascii_end-high.ensures c.if-h-high.false _ c.last_field_end.ensures
