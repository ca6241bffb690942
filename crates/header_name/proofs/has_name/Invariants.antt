use Rattle.std.proofs.Common.{◌≡◌, map, drop}
use Rattle.header_name.specs.NameTable.{has_name}
use Rattle.header_name.proofs.has_name.Given as goal

abbrev pub invariant-loop-n : goal.invariant-loop-n
invariant-loop-n l = has_name (map (λ n. n.now) (drop l.n-index l.names)) l.name ≡ has_name (map (λ n. n.now) l.names) l.name
