use Rattle.std.proofs.Common.{refl}
use Rattle.word_spelling.specs.FirstChars.{first_char, first_chars, from}
use Rattle.word_spelling.specs.Spelling.{bare}
use Rattle.word_spelling.specs.FirstCharsLaws.{costs_in_lem}
use Rattle.std.proofs.Common.{◌∙◌, ◌-◌, arith}
use Rattle.word_spelling.proofs.cost_at.Goals as goal

pub returns : goal.returns
unfolding first_chars first_char from bare
returns c = (c.char_cost.ensures.0, c.char_cost.ensures.1 ∙ costs_in_lem refl c.args.s.now (λ j. omega (arith, c.type_inv.s j)) (c.char_cost.result.end - c.args.i) c.args.i)
