use borrow.Author.Rules.{rules}
use Rattle.hennelaku.proofs.hennelaku_downgrade_mailbox_slices.Goals as goal

pub returns : goal.returns
returns c = c.downgrade.ensures
