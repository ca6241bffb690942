use borrow.Author.Rules.{rules}
use mathlib.Core.Path.{◌≡◌, refl}
use Prim.Native.Nat.{◌-◌}
use native.Mathlib.Omega.{arith}
use lib.ListN.{length, drop}
use Rattle.buffer.specs.Buffer.{ReachedCapped}
use Rattle.buffer.specs.BufferLaws.{added_by, capped_start, capped_turn, capped_end, length_capped, wrote_of}
use Rattle.encoded_word.specs.Segments.{rendered}
use Rattle.piece.specs.CommentPieces.{comment_pieces}
use Rattle.piece.proofs.CommentPiecesLaws.{comment_step, comment_end_lem, part_fits_lem, comment_le}
use Rattle.piece.proofs.PieceLaws.{turn_less}
use Rattle.comment.proofs.PartsLaws.{part_beyond, part_end_within}
use Rattle.piece.proofs.comment_pieces.put_parts.Goals as goal

pub loop-i-init : goal.loop-i-init
loop-i-init c = (capped_start _ _ _ (omega arith), refl)

pub slice_bounds-put_part-count : goal.slice_bounds-put_part-count
slice_bounds-put_part-count c = omega (arith, c.clip-a.ensures, length_capped c.loop-i.invariant.0)

pub slice_bounds-put_part-start : goal.slice_bounds-put_part-start
slice_bounds-put_part-start c = omega (arith, c.clip-a.ensures, length_capped c.loop-i.invariant.0)

pub slice_bounds-put_part-count-in-loop-i : goal.slice_bounds-put_part-count-in-loop-i
slice_bounds-put_part-count-in-loop-i c = omega (arith, part_beyond _ _ c.loop-i-test.true _ c.part_end-e.ensures)

pub slice_bounds-put_part-start-in-loop-i : goal.slice_bounds-put_part-start-in-loop-i
slice_bounds-put_part-start-in-loop-i c = omega (arith, part_beyond _ _ c.loop-i-test.true _ c.part_end-e.ensures)

pub slice_bounds-put_part-end-in-loop-i : goal.slice_bounds-put_part-end-in-loop-i
slice_bounds-put_part-end-in-loop-i c = part_end_within _ _ c.loop-i-test.true _ c.part_end-e.ensures

pub put_part-requires : goal.put_part-requires
put_part-requires c = part_fits_lem _ _ _ _ c.loop-i-test.true c.part_end-e.ensures c.requires.0 (omega (arith, c.loop-i.invariant.1, c.requires.1))

pub loop-i-smaller : goal.loop-i-smaller
loop-i-smaller c = turn_less c.loop-i-test.true (part_beyond _ _ c.loop-i-test.true _ c.part_end-e.ensures)

pub loop-i-preserved : goal.loop-i-preserved
loop-i-preserved c = (capped_turn c.loop-i.invariant.0 (comment_step _ _ _ c.loop-i-test.true c.part_end-e.ensures) (added_by _ _ _ _ _ c.clip-a.ensures c.put_part.ensures c.place_after-next.ensures) (omega arith), omega (arith, c.loop-i.invariant.1))

pub shape_of-out : goal.shape_of-out
shape_of-out c = length_capped c.loop-i.invariant.0

pub shape_of-scratch : goal.shape_of-scratch
shape_of-scratch c = c.loop-i.invariant.1

pub returns : goal.returns
returns c = wrote_of (capped_end c.loop-i.invariant.0 (comment_end_lem _ _ c.loop-i-test.false)) (omega (arith, comment_le c.args.comment.now, c.requires.0))
