use lib.ListN.{length}
use Rattle.piece.proofs.PieceLaws.{served}
use native.Mathlib.Omega.{arith}
use borrow.Author.Rules.{rules}
use Rattle.address_pieces.proofs.add_field.Goals as goal

pub slice_bounds-add_by_text-end : goal.slice_bounds-add_by_text-end
slice_bounds-add_by_text-end c = (served _ _ _ c.fitting_len-end.ensures).size

pub add_by_text-requires : goal.add_by_text-requires
add_by_text-requires c = let s = served (length c.args.scratch.now) c.args.text.now _ c.fitting_len-end.ensures in (omega (arith, s.size, s.small), omega (arith, s.size, s.roomy))

pub returns : goal.returns
returns c = rw (served _ _ _ c.fitting_len-end.ensures).is at c.add_by_text.ensures
