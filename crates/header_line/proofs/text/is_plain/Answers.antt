use mathlib.Core.Path.{refl}
use Rattle.header_line.specs.LineLaws.{plain}
use Rattle.header_line.specs.Lines.{line_byte}
use Rattle.header_line.proofs.text.is_plain.Goals as goal

pub returns : goal.returns
unfolding plain line_byte
returns c = refl
