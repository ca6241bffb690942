use Rattle.address_pieces.proofs.PiecesLaws.{turns_step, turns_end, turn_fits}
use Rattle.address_pieces.specs.Pieces.{pieces_of}
use Rattle.piece.proofs.PieceLaws.{turn_less}
use Rattle.group.specs.Group.{turns_from, turns_of, parts_at}
use Rattle.address_list.specs.Parts.{parts_of}
use Rattle.encoded_word.specs.Segments.{rendered}
use Rattle.buffer.specs.BufferLaws.{added_by, capped_start, capped_turn, capped_end, length_capped}
use Rattle.buffer.specs.Buffer.{ReachedCapped}
use lib.ListN.{length}
use native.Mathlib.Omega.{arith}
use Prim.Native.Nat.{◌-◌}
use mathlib.Core.Bool.{false}
use mathlib.Core.Path.{◌≡◌, refl}
use borrow.Author.Rules.{rules}
use Rattle.address_pieces.proofs.turn.add_turns.Given as goal

abbrev pub invariant-loop-i : goal.invariant-loop-i
invariant-loop-i l = ReachedCapped (rendered (pieces_of l.rules (turns_of (parts_of l.rules l.text)))) (rendered (pieces_of l.rules (turns_from false (parts_at l.rules l.text l.i)))) l.at l.initial.out l.out l.next × (length l.scratch ≡ length l.initial.scratch)

abbrev pub decreases-loop-i : goal.decreases-loop-i
decreases-loop-i l = length l.text - l.i
