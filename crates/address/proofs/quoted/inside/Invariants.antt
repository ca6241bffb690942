use Rattle.std.proofs.Common.{◌≡◌, false, drop}
use Rattle.address.specs.Address.{later, quoted_from}
use Rattle.address.proofs.quoted.inside.Given as goal

abbrev pub invariant-loop-i : goal.invariant-loop-i
invariant-loop-i l = later l.at (quoted_from false (drop l.at l.s)) ≡ later l.i (quoted_from l.escaped (drop l.i l.s))
