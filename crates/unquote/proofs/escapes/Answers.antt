use mathlib.Core.Path.{refl}
use Rattle.unquote.proofs.escapes.Goals as goal

pub returns : goal.returns
returns c = refl
