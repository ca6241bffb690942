use mathlib.Core.Path.{refl}
use Rattle.line.specs.Line.{blank}
use Rattle.line.proofs.is_blank.Goals as goal

pub returns : goal.returns
unfolding blank
returns c = refl
