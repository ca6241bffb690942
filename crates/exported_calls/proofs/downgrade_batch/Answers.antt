use Rattle.demands.proofs.BatchDemandsLaws.{batch_met}
use borrow.Author.Rules.{rules}
use Rattle.exported_calls.proofs.downgrade_batch.Goals as goal

pub returns : goal.returns
returns c = batch_met c.hennelaku_downgrade_batch_slices.ensures
