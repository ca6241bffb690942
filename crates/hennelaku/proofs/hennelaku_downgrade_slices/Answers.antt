use borrow.Author.Rules.{rules}
use Rattle.hennelaku.proofs.hennelaku_downgrade_slices.Goals as goal

pub returns : goal.returns
returns c = rw (← c.of_setting-rules.ensures) c.downgrade.ensures
