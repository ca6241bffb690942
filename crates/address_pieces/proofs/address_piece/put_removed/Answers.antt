use Rattle.address_pieces.proofs.WritingLaws.{removed_wrote}
use Rattle.buffer.specs.BufferLaws.{added_by}
use native.Mathlib.Omega.{arith}
use borrow.Author.Rules.{rules}
use Rattle.address_pieces.proofs.address_piece.put_removed.Goals as goal

pub returns : goal.returns
returns c = removed_wrote _ _ c.requires (omega arith) c.put_removal_start-words.ensures (added_by _ _ _ _ _ c.clip-a.ensures c.write.ensures c.place_after-end.ensures) (added_by _ _ _ _ _ c.clip-b.ensures c.put_removal_end.ensures c.place_after.ensures)
