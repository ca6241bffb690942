use borrow.Author.Rules.{rules}
use mathlib.Core.Path.{◌≡◌, refl}
use Prim.Native.Nat.{◌-◌}
use native.Mathlib.Omega.{arith}
use lib.ListN.{length, drop}
use Rattle.buffer.specs.Buffer.{ReachedCapped}
use Rattle.buffer.specs.BufferLaws.{added_by, capped_start, capped_turn, capped_end, length_capped, wrote_of}
use Rattle.encoded_word.specs.Segments.{rendered}
use Rattle.piece.specs.CommentPieces.{comment_pieces}
use Rattle.piece.proofs.CommentPiecesLaws.{comment_step, comment_end_lem, part_fits_lem, comment_le}
use Rattle.piece.proofs.PieceLaws.{turn_less}
use Rattle.comment.proofs.PartsLaws.{part_beyond, part_end_within}
use Rattle.piece.proofs.comment_pieces.put_parts.Given as goal

abbrev pub invariant-loop-i : goal.invariant-loop-i
invariant-loop-i l = ReachedCapped (rendered (comment_pieces l.comment)) (rendered (comment_pieces (drop l.i l.comment))) 0 l.initial.out l.out l.next × (length l.scratch ≡ length l.initial.scratch)

abbrev pub decreases-loop-i : goal.decreases-loop-i
decreases-loop-i l = length l.comment - l.i
