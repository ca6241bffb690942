use Rattle.std.proofs.Common.{◌≡◌, drop, true}
use Rattle.address.specs.Address.{later, dot_atom_from}
use Rattle.address.proofs.atom.dot_atom.Given as goal

abbrev pub invariant-loop-i : goal.invariant-loop-i
invariant-loop-i l = later l.at (dot_atom_from true (drop l.at l.s)) ≡ later l.i (dot_atom_from l.due (drop l.i l.s))
