use Rattle.address_pieces.proofs.PiecesLaws.{turns_step, turns_end, turn_fits}
use Rattle.address_pieces.specs.Pieces.{pieces_of}
use Rattle.piece.proofs.PieceLaws.{turn_less}
use Rattle.group.specs.Group.{turns_from, turns_of, parts_at}
use Rattle.address_list.specs.Parts.{parts_of}
use Rattle.encoded_word.specs.Segments.{rendered}
use Rattle.buffer.specs.BufferLaws.{added_by, capped_start, capped_turn, capped_end, length_capped}
use Rattle.buffer.specs.Buffer.{ReachedCapped}
use lib.ListN.{length}
use native.Mathlib.Omega.{arith}
use Prim.Native.Nat.{◌-◌}
use mathlib.Core.Bool.{false}
use mathlib.Core.Path.{◌≡◌, refl}
use borrow.Author.Rules.{rules}
use Rattle.address_pieces.proofs.turn.add_turns.Goals as goal

pub loop-i-init : goal.loop-i-init
unfolding parts_of turns_of
loop-i-init c = (capped_start _ _ _ (omega arith), refl)

pub slice_bounds-put_turn-count : goal.slice_bounds-put_turn-count
slice_bounds-put_turn-count c = omega (arith, c.clip-a.ensures)

pub slice_bounds-put_turn-start : goal.slice_bounds-put_turn-start
slice_bounds-put_turn-start c = omega (arith, c.clip-a.ensures)

pub slice_bounds-t-count : goal.slice_bounds-t-count
slice_bounds-t-count c = (c.next_from-turn.ensures.1.there c.loop-i-test.true).ordered

pub slice_bounds-t-start : goal.slice_bounds-t-start
slice_bounds-t-start c = (c.next_from-turn.ensures.1.there c.loop-i-test.true).ordered

pub slice_bounds-t-end : goal.slice_bounds-t-end
slice_bounds-t-end c = let w = c.next_from-turn.ensures.1.there c.loop-i-test.true in omega (arith, w.covers, w.within)

pub put_turn-requires : goal.put_turn-requires
put_turn-requires c = turn_fits (c.next_from-turn.ensures.1.there c.loop-i-test.true) _ c.requires.0 (omega (arith, c.loop-i.invariant.1, c.requires.1))

pub loop-i-smaller : goal.loop-i-smaller
loop-i-smaller c = turn_less c.loop-i-test.true (c.next_from-turn.ensures.1.there c.loop-i-test.true).on

pub loop-i-preserved : goal.loop-i-preserved
loop-i-preserved c = (capped_turn c.loop-i.invariant.0 (turns_step (c.next_from-turn.ensures.1.there c.loop-i-test.true)) (added_by _ _ _ _ _ c.clip-a.ensures c.put_turn.ensures c.place_after-next.ensures) (omega arith), omega (arith, c.loop-i.invariant.1))

pub shape_of-out : goal.shape_of-out
shape_of-out c = length_capped c.loop-i.invariant.0

pub shape_of-scratch : goal.shape_of-scratch
shape_of-scratch c = c.loop-i.invariant.1

pub returns : goal.returns
returns c = capped_end c.loop-i.invariant.0 (turns_end _ _ _ c.loop-i-test.false)
