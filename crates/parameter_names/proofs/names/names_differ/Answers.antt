use Rattle.std.proofs.Common.{sym}
use Rattle.std.proofs.Math.Seq.{length-take-le}
use Rattle.parameter_names.proofs.names.names_differ.Goals as goal

pub slice_bounds-keyed_differ-end : goal.slice_bounds-keyed_differ-end
slice_bounds-keyed_differ-end c = sym (length-take-le _ _ c.in-Some.ensures.0)

pub keyed_differ-requires : goal.keyed_differ-requires
keyed_differ-requires c = c.in-Some.ensures.1
