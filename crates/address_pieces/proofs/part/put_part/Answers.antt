use Rattle.piece.proofs.PieceLaws.{rendered_one, wrote_same, fitting_short}
use Rattle.piece.specs.Piece.{piece}
use Rattle.address_pieces.specs.Pieces.{pieces}
use Rattle.address_pieces.proofs.PiecesLaws.{pieces_angled, pieces_alternative}
use Rattle.encoded_word.specs.Segments.{rendered}
use Rattle.encoded_word.specs.Segments.Segment.{raw}
use Rattle.buffer.specs.BufferLaws.{wrote_nothing}
use native.Mathlib.Omega.{arith}
use mathlib.Core.List.{[], ◌∷◌}
use mathlib.Core.Logic.{⊎_elim}
use mathlib.Core.Path.{sym}
use borrow.Author.Rules.{rules}
use Rattle.address_pieces.proofs.part.put_part.Goals as goal

pub overflow_add-end : goal.overflow_add-end
overflow_add-end c = omega (arith, rw c.in-Angled.is at c.requires.1.1)

pub slice_bounds-put_address-end : goal.slice_bounds-put_address-end
slice_bounds-put_address-end c = omega (arith, rw c.in-Angled.is at c.requires.1.1)

pub put_address-requires-in-Angled : goal.put_address-requires-in-Angled
put_address-requires-in-Angled c = omega (arith, rw c.in-Angled.is at c.requires.1.1, c.requires.0)

pub overflow_add-end-in-Alternative : goal.overflow_add-end-in-Alternative
overflow_add-end-in-Alternative c = omega (arith, rw c.in-Alternative.is at c.requires.1.1)

pub slice_bounds-put_in_angles-end : goal.slice_bounds-put_in_angles-end
slice_bounds-put_in_angles-end c = omega (arith, rw c.in-Alternative.is at c.requires.1.1)

pub put_in_angles-requires : goal.put_in_angles-requires
put_in_angles-requires c = omega (arith, rw c.in-Alternative.is at c.requires.1.1, c.requires.0)

pub returns-in-Blank : goal.returns-in-Blank
unfolding pieces rendered
returns-in-Blank c = ⊎_elim (λ e. rw e (wrote_nothing _)) (λ e. rw e (wrote_nothing _)) c.in-Blank.is

pub returns-in-Comment : goal.returns-in-Comment
unfolding pieces
returns-in-Comment c = rw c.in-Comment.is (rw (fitting_short _ _ c.requires.0 c.requires.1.0) at c.put_comment.ensures)

pub returns-in-Comma : goal.returns-in-Comma
unfolding pieces
returns-in-Comma c = rw c.in-Comma.is (wrote_same (sym (rendered_one (raw (44 ∷ [])))) c.put_byte.ensures)

pub returns-in-Colon : goal.returns-in-Colon
unfolding pieces
returns-in-Colon c = rw c.in-Colon.is (wrote_same (sym (rendered_one (piece (58 ∷ [])))) c.put_piece.ensures)

pub returns-in-Semicolon : goal.returns-in-Semicolon
unfolding pieces
returns-in-Semicolon c = rw c.in-Semicolon.is (wrote_same (sym (rendered_one (piece (59 ∷ [])))) c.put_piece-in-Semicolon.ensures)

pub returns-in-Phrase : goal.returns-in-Phrase
unfolding pieces
returns-in-Phrase c = rw c.in-Phrase.is c.put_phrase.ensures

pub returns-in-Address : goal.returns-in-Address
unfolding pieces
returns-in-Address c = rw c.in-Address.is c.put_address.ensures

pub returns-in-Angled : goal.returns-in-Angled
returns-in-Angled c = rw c.in-Angled.is (wrote_same (pieces_angled _ _ _ _) c.put_address-in-Angled.ensures)

pub returns-in-Alternative : goal.returns-in-Alternative
returns-in-Alternative c = rw c.in-Alternative.is (wrote_same (pieces_alternative _ _ _ _) c.put_in_angles.ensures)
