use Rattle.demands.proofs.DemandsLaws.{met}
use borrow.Author.Rules.{rules}
use Rattle.exported_calls.proofs.downgrade.Goals as goal

pub returns : goal.returns
returns c = met c.hennelaku_downgrade_slices.ensures
