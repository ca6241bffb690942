use Rattle.word_spelling.specs.Spelling.{bare}
use mathlib.Core.Path.{refl}
use Rattle.word_choice.proofs.block.single.Goals as goal

pub returns : goal.returns
unfolding bare
returns c = refl
