use Rattle.std.proofs.Common.{◌∙◌}
use Rattle.letter_case.specs.LetterCaseLaws.{lower_std}
use Rattle.letter_case.proofs.lower.Goals as goal

pub returns : goal.returns
returns c = c.to_ascii_lowercase.ensures.value ∙ lower_std c.args.b
