use native.Mathlib.Omega.{arith}
use Rattle.piece.proofs.PieceLaws.{served}
use lib.ListN.{length}
use borrow.Author.Rules.{rules}
use Rattle.piece.proofs.comment_pieces.put_comment.Goals as goal

pub slice_bounds-put_parts-end : goal.slice_bounds-put_parts-end
slice_bounds-put_parts-end c = (served _ _ _ c.fitting_len-end.ensures).size

pub put_parts-requires : goal.put_parts-requires
put_parts-requires c = let s = served (length c.args.scratch.now) c.args.comment.now _ c.fitting_len-end.ensures in (omega (arith, s.size, s.small), omega (arith, s.size, s.roomy))

pub returns : goal.returns
returns c = rw (served _ _ _ c.fitting_len-end.ensures).is at c.put_parts.ensures
