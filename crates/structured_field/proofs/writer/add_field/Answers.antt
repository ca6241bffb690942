use Rattle.structured_field.specs.StructuredField.{value_segments, structured_field}
use Rattle.structured_field.proofs.writer.add_field.Goals as goal

pub returns : goal.returns
unfolding structured_field value_segments
returns c = c.add_named.ensures
