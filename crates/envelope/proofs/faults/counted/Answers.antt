use Rattle.envelope.proofs.CheckLaws.{none_counted, some_counted}
use Rattle.envelope.proofs.faults.counted.Goals as goal

pub returns-then-n-eq0 : goal.returns-then-n-eq0
returns-then-n-eq0 c = none_counted _ c.if-n-eq0.true

pub returns : goal.returns
returns c = some_counted _ c.if-n-eq0.false
