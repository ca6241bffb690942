use Rattle.batch.specs.Batch.{past_end}
use mathlib.Core.Path.{refl}
use borrow.Author.Rules.{rules}
use Rattle.batch.proofs.is_past_end.Goals as goal

pub returns : goal.returns
unfolding past_end
returns c = refl
