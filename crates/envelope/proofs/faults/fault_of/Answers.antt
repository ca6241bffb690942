use Rattle.std.proofs.Common.{◌∙◌}
use Rattle.envelope.proofs.CheckLaws.{line_many, line_front}
use Rattle.envelope.proofs.faults.fault_of.Goals as goal

pub returns-then-n-gt100 : goal.returns-then-n-gt100
returns-then-n-gt100 c = line_many _ _ _ c.if-n-gt100.true

pub returns : goal.returns
returns c = c.front_fault.ensures ∙ line_front _ _ _ c.if-n-gt100.false
