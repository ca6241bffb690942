use Rattle.batch.specs.BatchLaws.{range_part}
use borrow.Author.Rules.{rules}
use Rattle.batch.proofs.range_of.Goals as goal

pub returns : goal.returns
returns c = range_part _ _ _ c.part.ensures
