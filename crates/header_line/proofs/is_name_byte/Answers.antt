use mathlib.Core.Path.{refl}
use Rattle.header_line.specs.Lines.{name_byte}
use Rattle.header_line.proofs.is_name_byte.Goals as goal

pub returns : goal.returns
unfolding name_byte
returns c = refl
