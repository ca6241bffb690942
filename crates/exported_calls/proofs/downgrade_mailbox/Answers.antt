use Rattle.demands.proofs.MailboxDemandsLaws.{mailbox_met}
use borrow.Author.Rules.{rules}
use Rattle.exported_calls.proofs.downgrade_mailbox.Goals as goal

pub returns : goal.returns
returns c = mailbox_met c.hennelaku_downgrade_mailbox_slices.ensures
