use Rattle.batch.specs.Batch.{range_refused}
use Rattle.batch.specs.BatchLaws.{out_of_range, in_range}
use borrow.Author.Rules.{rules}
use Rattle.batch.proofs.downgrade_ranges.Goals as goal

pub returns-then-is_past_end : goal.returns-then-is_past_end
unfolding range_refused
returns-then-is_past_end c = out_of_range _ _ _ _ _ _ _ _ c.is_past_end.ensures c.is_past_end-2.ensures c.if-is_past_end.true

pub returns : goal.returns
returns c = in_range _ _ _ _ _ _ _ _ c.is_past_end.ensures c.is_past_end-2.ensures c.if-is_past_end.false c.range_of.ensures c.range_of-2.ensures c.downgrade.ensures
