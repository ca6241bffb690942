use Rattle.parameter.specs.Parameter.{is_value_byte}
use mathlib.Core.Path.{refl}
use Rattle.parameter.proofs.is_value_byte.Goals as goal

pub returns : goal.returns
unfolding is_value_byte
returns c = refl
