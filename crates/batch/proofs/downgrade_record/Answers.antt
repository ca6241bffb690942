use Rattle.batch.specs.BatchLaws.{fits, recorded}
use borrow.Author.Rules.{rules}
use Rattle.batch.proofs.downgrade_record.Goals as goal

pub store-requires : goal.store-requires
store-requires c = fits _ _ _ _ _ c.requires c.downgrade_ranges-answer.ensures

pub returns : goal.returns
returns c = recorded _ _ _ _ _ c.requires c.downgrade_ranges-answer.ensures c.store.ensures
