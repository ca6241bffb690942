use Rattle.address_pieces.proofs.LengthLaws.{part_le, phrase_words_le}
use Rattle.piece.proofs.PieceLaws.{turn_less}
use borrow.Author.Rules.{rules}
use Rattle.address_pieces.proofs.PiecesLaws.{word_pieces_step, word_pieces_end}
use Rattle.piece.specs.Piece.{piece}
use Rattle.phrase.specs.Phrase.{words_from, phrase_words}
use Rattle.encoded_word.specs.Segments.{rendered}
use Rattle.buffer.specs.BufferLaws.{added_by, capped_start, capped_turn, capped_end, length_capped, wrote_of}
use Rattle.buffer.specs.Buffer.{ReachedCapped}
use lib.ListN.{length, drop}
use native.Mathlib.Omega.{arith}
use Prim.Native.Nat.{◌-◌}
use mathlib.Core.List.{map}
use Rattle.address_pieces.proofs.phrase_pieces.put_words.Given as goal

abbrev pub invariant-loop-i : goal.invariant-loop-i
invariant-loop-i l = ReachedCapped (rendered (map piece (phrase_words l.phrase))) (rendered (map piece (words_from 0 (drop l.i l.phrase)))) 0 l.initial.out l.out l.next

abbrev pub decreases-loop-i : goal.decreases-loop-i
decreases-loop-i l = length l.phrase - l.i
