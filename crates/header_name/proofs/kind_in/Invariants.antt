use Rattle.std.proofs.Common.{◌≡◌, map, drop}
use Rattle.header_name.specs.NameTable.{kind_in}
use Rattle.header_name.proofs.kind_in.Given as goal

abbrev pub invariant-loop-n : goal.invariant-loop-n
invariant-loop-n l = kind_in (map (λ e. (e.0.now, e.1)) (drop l.n-index l.table)) l.name ≡ kind_in (map (λ e. (e.0.now, e.1)) l.table) l.name
