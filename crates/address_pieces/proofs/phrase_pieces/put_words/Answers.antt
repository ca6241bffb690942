use Rattle.address_pieces.proofs.LengthLaws.{part_le, phrase_words_le}
use Rattle.piece.proofs.PieceLaws.{turn_less}
use borrow.Author.Rules.{rules}
use Rattle.address_pieces.proofs.PiecesLaws.{word_pieces_step, word_pieces_end}
use Rattle.piece.specs.Piece.{piece}
use Rattle.phrase.specs.Phrase.{words_from, phrase_words}
use Rattle.encoded_word.specs.Segments.{rendered}
use Rattle.buffer.specs.BufferLaws.{added_by, capped_start, capped_turn, capped_end, length_capped, wrote_of}
use Rattle.buffer.specs.Buffer.{ReachedCapped}
use lib.ListN.{length, drop}
use native.Mathlib.Omega.{arith}
use Prim.Native.Nat.{◌-◌}
use mathlib.Core.List.{map}
use Rattle.address_pieces.proofs.phrase_pieces.put_words.Goals as goal

pub loop-i-init : goal.loop-i-init
unfolding phrase_words
loop-i-init c = capped_start _ _ _ (omega arith)

pub slice_bounds-put_piece-count : goal.slice_bounds-put_piece-count
slice_bounds-put_piece-count c = omega (arith, c.clip-a.ensures, length_capped c.loop-i.invariant)

pub slice_bounds-put_piece-start : goal.slice_bounds-put_piece-start
slice_bounds-put_piece-start c = omega (arith, c.clip-a.ensures, length_capped c.loop-i.invariant)

pub slice_bounds-put_piece-count-in-loop-i : goal.slice_bounds-put_piece-count-in-loop-i
slice_bounds-put_piece-count-in-loop-i c = omega (arith, c.word_end-e.ensures.some c.loop-i-test.true)

pub slice_bounds-put_piece-start-in-loop-i : goal.slice_bounds-put_piece-start-in-loop-i
slice_bounds-put_piece-start-in-loop-i c = omega (arith, c.word_end-e.ensures.some c.loop-i-test.true)

pub slice_bounds-put_piece-end-in-loop-i : goal.slice_bounds-put_piece-end-in-loop-i
slice_bounds-put_piece-end-in-loop-i c = c.word_end-e.ensures.within c.loop-i-test.true

pub put_piece-requires : goal.put_piece-requires
put_piece-requires c = omega (arith, part_le c.loop-i.i (c.word_end-e.result - c.loop-i.i) c.args.phrase.now, c.requires)

pub loop-i-smaller : goal.loop-i-smaller
loop-i-smaller c = turn_less c.loop-i-test.true (omega (arith, c.blanks_end-i.ensures, c.word_end-e.ensures.some c.loop-i-test.true))

pub loop-i-preserved : goal.loop-i-preserved
loop-i-preserved c = capped_turn c.loop-i.invariant (word_pieces_step _ _ _ _ c.loop-i-test.true c.word_end-e.ensures.is c.blanks_end-i.ensures) (added_by _ _ _ _ _ c.clip-a.ensures c.put_piece.ensures c.place_after-next.ensures) (omega arith)

pub shape_of-out : goal.shape_of-out
shape_of-out c = length_capped c.loop-i.invariant

pub returns : goal.returns
returns c = wrote_of (capped_end c.loop-i.invariant (word_pieces_end _ _ c.loop-i-test.false)) (omega (arith, phrase_words_le c.args.phrase.now, c.requires))
