use Rattle.piece.proofs.PieceLaws.{served}
use native.Mathlib.Omega.{arith}
use borrow.Author.Rules.{rules}
use Rattle.parameterized_field.proofs.held.passes.Goals as goal

pub slice_bounds-fitting_passes-end : goal.slice_bounds-fitting_passes-end
slice_bounds-fitting_passes-end c = (served _ _ _ c.fitting_len-end.ensures).size

pub fitting_passes-requires : goal.fitting_passes-requires
fitting_passes-requires c = let s = served 65536 c.args.value.now _ c.fitting_len-end.ensures in (omega (arith, s.size, s.small), omega (arith, s.size, s.roomy))

pub returns : goal.returns
returns c = rw (served 65536 _ _ c.fitting_len-end.ensures).is at c.fitting_passes.ensures
