use Rattle.demands.proofs.DemandsLaws.{met}
use Rattle.undisclosed_recipients.proofs.UndisclosedRecipientsLaws.{undisclosed_by}
use Rattle.rules.specs.Rules.{setting_rules}
use borrow.Author.Rules.{rules}
use Rattle.undisclosed_recipients.proofs.downgrade_both.Goals as goal

pub returns : goal.returns
returns c = record {
  demands = met c.hennelaku_downgrade_slices.ensures;
  demands_2 = met c.hennelaku_downgrade_slices-2.ensures;
  undisclosed = undisclosed_by (setting_rules c.args.setting) c.args.first.now c.args.second.now c.args.header.now c.args.first_envelope.now c.args.first_header.now c.args.second_envelope.now c.args.second_header.now c.hennelaku_downgrade_slices.ensures c.hennelaku_downgrade_slices-2.ensures;
}
