use Rattle.parameter.specs.Parameter.{is_keyword_byte}
use mathlib.Core.Path.{refl}
use Rattle.parameter.proofs.is_keyword_byte.Goals as goal

pub returns : goal.returns
unfolding is_keyword_byte
returns c = refl
