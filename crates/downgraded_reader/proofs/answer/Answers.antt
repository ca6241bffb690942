use Rattle.downgraded_reader.specs.ReaderLaws.{outcome_is}
use borrow.Author.Rules.{rules}
use Rattle.downgraded_reader.proofs.answer.Goals as goal

pub returns : goal.returns
returns c = outcome_is _ _ _ c.read-found.ensures c.numbered.ensures
