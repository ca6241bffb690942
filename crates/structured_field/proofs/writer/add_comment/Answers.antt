use Rattle.piece.proofs.PieceLaws.{served}
use native.Mathlib.Omega.{arith}
use lib.ListN.{length}
use borrow.Author.Rules.{rules}
use Rattle.structured_field.proofs.writer.add_comment.Goals as goal

pub slice_bounds-add_parts-end : goal.slice_bounds-add_parts-end
slice_bounds-add_parts-end c = (served _ _ _ c.fitting_len-end.ensures).size

pub add_parts-requires : goal.add_parts-requires
add_parts-requires c = let s = served (length c.args.scratch.now) c.args.comment.now _ c.fitting_len-end.ensures in (omega (arith, s.size, s.small), omega (arith, s.size, s.roomy))

pub returns : goal.returns
returns c = rw (served _ _ _ c.fitting_len-end.ensures).is at c.add_parts.ensures
