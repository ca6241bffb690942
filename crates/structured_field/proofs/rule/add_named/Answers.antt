use Rattle.std.proofs.Common.{arith, length}
use Rattle.piece.proofs.PieceLaws.{served}
use Rattle.structured_field.proofs.rule.add_named.Goals as goal

pub slice_bounds-add_fitting-end : goal.slice_bounds-add_fitting-end
slice_bounds-add_fitting-end g c = (served _ _ _ c.fitting_len-end.ensures).size

pub add_fitting-requires : goal.add_fitting-requires
add_fitting-requires g c = let s = served (length c.args.scratch.now) c.args.value.now _ c.fitting_len-end.ensures in (omega (arith, s.size, s.small), omega (arith, s.size, s.roomy))

pub returns : goal.returns
returns g c = rw (served _ _ _ c.fitting_len-end.ensures).is at c.add_fitting.ensures
