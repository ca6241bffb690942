use Rattle.std.proofs.Common.{◌-◌}
use Rattle.read_back.specs.CallsLaws.{Going}
use Rattle.read_back.proofs.numbered.read_number.Given as goal

abbrev pub invariant-loop : goal.invariant-loop
invariant-loop l = Going l.header l.k l.initial.text l.place (l.k - l.counter) l.text
