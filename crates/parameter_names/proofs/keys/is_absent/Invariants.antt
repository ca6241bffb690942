use Rattle.parameter_names.specs.KeysLaws.{Absent}
use Rattle.parameter_names.proofs.keys.is_absent.Given as goal

abbrev pub invariant-loop-other : goal.invariant-loop-other
invariant-loop-other l = Absent l.keys l.key l.absent l.other-index
