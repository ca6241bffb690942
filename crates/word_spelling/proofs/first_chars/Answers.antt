use Rattle.word_spelling.specs.FirstChars.{from, first_char, first_chars}
use Rattle.word_spelling.specs.Spelling.{bare}
use mathlib.Core.Path.{refl}
use Rattle.word_spelling.proofs.first_chars.Goals as goal

pub returns : goal.returns
unfolding first_chars first_char from bare
returns c = refl
