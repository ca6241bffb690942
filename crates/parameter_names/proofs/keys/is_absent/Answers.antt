use Rattle.std.proofs.Common.{refl}
use Rattle.parameter_names.specs.KeysLaws.{Absent, absent_more, absent_all}
use Rattle.parameter_names.proofs.keys.is_absent.Goals as goal

pub loop-other-init : goal.loop-other-init
loop-other-init c = record { is = refl }

pub loop-other-preserved : goal.loop-other-preserved
loop-other-preserved c = absent_more c.loop-other.invariant c.loop-other-test.true

pub returns : goal.returns
returns c = absent_all c.loop-other.invariant c.loop-other-test.false
