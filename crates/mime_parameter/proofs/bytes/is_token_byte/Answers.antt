use Rattle.mime_parameter.specs.Extended.{is_token_byte}
use mathlib.Core.Path.{refl}
use Rattle.mime_parameter.proofs.bytes.is_token_byte.Goals as goal

pub returns : goal.returns
unfolding is_token_byte
returns c = refl
