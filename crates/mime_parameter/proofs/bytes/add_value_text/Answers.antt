use Rattle.mime_parameter.specs.Pieces.{value_text}
use Rattle.mime_parameter.proofs.bytes.add_value_text.Goals as goal

pub returns : goal.returns
unfolding value_text
returns c = c.add_kept_text.ensures
