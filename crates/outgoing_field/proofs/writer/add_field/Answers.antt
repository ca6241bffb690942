use Rattle.outgoing_field.proofs.FateLaws.{limited_within}
use Rattle.outgoing_field.proofs.writer.add_field.Goals as goal

pub add_limited-requires : goal.add_limited-requires
add_limited-requires c = rw c.limited.ensures (limited_within _)

pub returns : goal.returns
returns c = rw c.limited.ensures at c.add_limited.ensures
