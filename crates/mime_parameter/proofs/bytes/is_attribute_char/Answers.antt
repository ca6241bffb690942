use Rattle.mime_parameter.specs.Extended.{is_attribute_char}
use Rattle.mime_parameter.proofs.bytes.is_attribute_char.Goals as goal

pub returns : goal.returns
unfolding is_attribute_char
returns c = rw c.is_token_byte.ensures
