use Rattle.outgoing_field.proofs.FateLaws.{limited_within}
use Rattle.outgoing_field.proofs.held.first_held.Goals as goal

pub look_through-requires : goal.look_through-requires
look_through-requires c = rw c.limited.ensures (limited_within _)

pub returns : goal.returns
returns c = rw c.limited.ensures at c.look_through.ensures
