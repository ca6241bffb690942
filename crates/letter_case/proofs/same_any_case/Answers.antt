use Rattle.letter_case.specs.LetterCaseLaws.{same_std}
use Rattle.letter_case.proofs.same_any_case.Goals as goal

pub returns : goal.returns
returns c = same_std c.args.a.now c.args.b.now _ c.eq_ignore_ascii_case.ensures.test
