use Rattle.std.proofs.Common.{refl, ◌∙◌, arith}
use Rattle.parameter_names.specs.KeysLaws.{Key, key_more_lem, key_all}
use Rattle.parameter_names.proofs.keys.key_of.Goals as goal

pub loop-b-init : goal.loop-b-init
loop-b-init c = record { is = refl; small = omega arith }

pub loop-b-preserved : goal.loop-b-preserved
loop-b-preserved c = key_more_lem c.loop-b.invariant c.loop-b-test.true (c.from.ensures ∙ c.lower.ensures)

pub returns : goal.returns
returns c = key_all c.loop-b.invariant c.loop-b-test.false
