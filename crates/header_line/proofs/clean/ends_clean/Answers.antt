use Rattle.header_line.specs.Clean.{lines_end}
use mathlib.Core.Path.{refl}
use Rattle.header_line.proofs.clean.ends_clean.Goals as goal

pub returns : goal.returns
unfolding lines_end
returns c = refl
