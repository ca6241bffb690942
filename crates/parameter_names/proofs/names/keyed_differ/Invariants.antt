use Rattle.std.proofs.Common.{◌≡◌, drop}
use Rattle.lists.specs.CutBy.{cut_by}
use Rattle.parameter_names.specs.Names.{marked_len, distinct}
use Rattle.parameter_names.specs.KeysLaws.{KeysAt}
use Rattle.parameter_names.proofs.names.keyed_differ.Given as goal

abbrev pub invariant-loop-n : goal.invariant-loop-n
invariant-loop-n l = record {
  keys : KeysAt l.s l.i (drop l.n l.keys);
  rest : distinct (cut_by marked_len l.s) ≡ distinct (cut_by marked_len (drop l.i l.s));
}
