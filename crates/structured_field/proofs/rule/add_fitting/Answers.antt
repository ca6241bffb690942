use Rattle.std.proofs.Common.{arith}
use Rattle.field.proofs.FieldLaws.{named_added}
use Rattle.structured_field.proofs.rule.add_fitting.Goals as goal

pub returns : goal.returns
returns g c = named_added _ _ (omega arith) c.add_slice-colon.ensures c.add_byte-start.ensures c.add_value-end.ensures c.add_slice.ensures
