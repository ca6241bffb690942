use Rattle.demands.proofs.MailboxDemandsLaws.{mailbox_met}
use Rattle.read_back.specs.ReadBackLaws.{part_inside, part_size, mailbox_shown}
use borrow.Author.Rules.{rules}
use Rattle.read_back.proofs.downgrade_mailbox_and_read.Goals as goal

pub slice_bounds-read_number-end : goal.slice_bounds-read_number-end
slice_bounds-read_number-end c = part_inside (mailbox_met c.hennelaku_downgrade_mailbox_slices-downgraded.ensures).demand_1.kept

pub slice_bounds-read_number-end-2 : goal.slice_bounds-read_number-end-2
slice_bounds-read_number-end-2 c = part_size (mailbox_met c.hennelaku_downgrade_mailbox_slices-downgraded.ensures).demand_1.kept

pub returns : goal.returns
returns c = record {
  mailbox_demands = mailbox_met c.hennelaku_downgrade_mailbox_slices-downgraded.ensures;
  mailbox_reads_back = λ z. mailbox_shown (mailbox_met c.hennelaku_downgrade_mailbox_slices-downgraded.ensures) z c.read_number-read.ensures;
}
