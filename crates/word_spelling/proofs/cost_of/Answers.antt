use Rattle.std.proofs.Common.{refl}
use Rattle.word_spelling.specs.FirstChars.{first_char, first_chars, from}
use Rattle.word_spelling.specs.Spelling.{bare}
use Rattle.std.proofs.Common.{arith}
use Rattle.word_spelling.specs.FirstCharsLaws.{cost_in_lem}
use Rattle.word_spelling.proofs.cost_of.Goals as goal

pub returns : goal.returns
unfolding first_chars first_char from bare
returns c = (cost_in_lem c.args.b refl (omega arith) c.byte_cost.ensures.0, c.byte_cost.ensures.1)
