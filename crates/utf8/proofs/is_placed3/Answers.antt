use mathlib.Core.Path.{refl}
use Rattle.utf8.specs.Window.{placed3}
use Rattle.utf8.proofs.is_placed3.Goals as goal

pub returns : goal.returns
unfolding placed3
returns c = refl
