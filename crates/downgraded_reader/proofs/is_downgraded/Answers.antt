use mathlib.Core.Path.{refl}
use Rattle.letter_case.specs.LetterCase.{bytes}
use Rattle.downgraded_reader.specs.ReaderLaws.{downgraded_by}
use borrow.Author.Rules.{rules}
use Rattle.downgraded_reader.proofs.is_downgraded.Goals as goal

pub returns : goal.returns
unfolding bytes
returns c = downgraded_by c.args.h.now c.args.at c.part.ensures refl c.same_any_case.ensures
