use Rattle.xtext.specs.Xtext.{is_xchar}
use mathlib.Core.Path.{refl}
use Rattle.xtext.proofs.is_xchar.Goals as goal

pub returns : goal.returns
unfolding is_xchar
returns c = refl
