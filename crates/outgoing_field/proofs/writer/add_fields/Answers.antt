use Rattle.outgoing_field.proofs.FateLaws.{limited_within}
use Rattle.outgoing_field.proofs.writer.add_fields.Goals as goal

pub add_all-requires : goal.add_all-requires
add_all-requires c = rw c.limited.ensures (limited_within _)

pub returns : goal.returns
returns c = rw c.limited.ensures at c.add_all.ensures
