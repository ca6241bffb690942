use Rattle.utf8.specs.Window.{whole}
use mathlib.Core.Path.{refl}
use Rattle.utf8.proofs.is_whole.Goals as goal

pub returns : goal.returns
unfolding whole
returns c = refl
