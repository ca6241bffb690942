use borrow.Author.Rules.{rules}
use Rattle.hennelaku.proofs.hennelaku_downgrade_batch_slices.Goals as goal

pub returns : goal.returns
returns c = rw (← c.of_setting.ensures) c.downgrade.ensures
