use Rattle.demands.proofs.BatchDemandsLaws.{batch_met}
use Rattle.undisclosed_recipients.proofs.UndisclosedRecipientsLaws.{records_undisclosed_by}
use Rattle.rules.specs.Rules.{setting_rules}
use borrow.Author.Rules.{rules}
use Rattle.undisclosed_recipients.proofs.downgrade_batch.Goals as goal

pub returns : goal.returns
returns c = record {
  batch_demands = batch_met c.hennelaku_downgrade_batch_slices.ensures;
  undisclosed_records = records_undisclosed_by (setting_rules c.args.setting) c.args.input.now c.args.records.now c.args.envelope_buffer.now c.args.header_buffer.now c.hennelaku_downgrade_batch_slices.ensures;
}
