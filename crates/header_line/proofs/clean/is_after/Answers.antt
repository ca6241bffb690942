use Rattle.header_line.specs.Clean.{line_after}
use mathlib.Core.Path.{refl}
use Rattle.header_line.proofs.clean.is_after.Goals as goal

pub returns : goal.returns
unfolding line_after
returns c = refl
