use Rattle.received.specs.Received.{value_segments, received_field}
use Rattle.received.proofs.writer.add_field.Goals as goal

pub returns : goal.returns
unfolding received_field value_segments
returns c = c.add_named.ensures
