use mathlib.Core.Path.{refl}
use Rattle.hennelaku.specs.Version.{version}
use Rattle.hennelaku.proofs.hennelaku_version.Goals as goal

pub returns : goal.returns
unfolding version
returns c = refl
