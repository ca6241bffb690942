use Rattle.std.proofs.Common.{refl}
use Rattle.word_spelling.specs.FirstChars.{first_char, first_chars, from}
use Rattle.word_spelling.specs.Spelling.{bare}
use Rattle.std.proofs.Common.{arith}
use Rattle.word_spelling.specs.FirstCharsLaws.{first_in}
use Rattle.word_spelling.proofs.first_of.Goals as goal

pub returns : goal.returns
unfolding first_chars first_char from bare
returns c = first_in c.args.b refl (omega arith) c.first_char.ensures
