use Rattle.word_choice.specs.Block.{plain}
use mathlib.Core.Path.{refl}
use Rattle.word_choice.proofs.block.is_plain.Goals as goal

pub returns : goal.returns
unfolding plain
returns c = refl
