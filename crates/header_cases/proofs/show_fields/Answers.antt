use Rattle.std.proofs.Common.{arith}
use Rattle.header.specs.FieldLaws.{field_after}
use Rattle.header_cases.proofs.show_fields.Goals as goal

-- A field is not empty.
pub loop-at-smaller : goal.loop-at-smaller
loop-at-smaller g c = omega (arith, (field_after _ _ _ c.loop-at-test.true c.field_end-to.ensures).0)
