use Rattle.parameter_names.specs.KeysLaws.{Key}
use Rattle.parameter_names.proofs.keys.key_of.Given as goal

abbrev pub invariant-loop-b : goal.invariant-loop-b
invariant-loop-b l = Key l.name l.k l.b-index
