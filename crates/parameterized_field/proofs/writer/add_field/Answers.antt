use Rattle.parameterized_field.specs.Value.{parameterized_field}
use Rattle.parameterized_field.proofs.writer.add_field.Goals as goal

pub returns : goal.returns
unfolding parameterized_field
returns c = c.add_named.ensures
