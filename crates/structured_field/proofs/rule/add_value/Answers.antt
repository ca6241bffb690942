use Rattle.std.proofs.Common.{◌≡◌, ◌≤◌, ◌∙◌, ◌-◌, ◌*◌, refl, arith, length, take, drop, take_all, length-take, length-drop}
use Rattle.buffer.specs.BufferLaws.{capped_start, capped_turn, capped_end, length_capped}
use Rattle.piece.specs.Piece.{fitting}
use Rattle.piece.proofs.PieceLaws.{fitting_short}
use Rattle.structured_field.proofs.rule.add_value.Goals as goal

pub loop-i-init : goal.loop-i-init
loop-i-init g c = record { reached = rw c.begin-state.ensures (capped_start _ _ _ (omega arith)); room = refl }

pub loop-i-preserved : goal.loop-i-preserved
loop-i-preserved g c =
    let rule = g.met.R.ValueRule in
    let s = c.args.value.now in
    let i = c.loop-i.i in
    let e = c.part_at-kind.result.end in
    let part = take (e - i) (drop i s) in
    let size : length part ≤ length s = omega (arith, length-take (e - i) (drop i s), length-drop i s) in
    let small : length part ≤ 32768 = omega (arith, c.requires.0) in
    let roomy : 2 * length part ≤ length c.loop-i.scratch = omega (arith, c.requires.1, c.loop-i.invariant.room) in
    let served : fitting (length c.loop-i.scratch) part ≡ part = fitting_short (length c.loop-i.scratch) part small roomy in
    let after : take (length s - e) (drop e s) ≡ drop e s = take_all (length s - e) (drop e s) (rw length-drop (omega arith)) in
    let took = c.part_at-kind.ensures.what c.loop-i-test.true in
    let added = (rw (served, after) at c.add_part-begun.ensures.is) (rule.fits_part _ _ _ _ _ c.loop-i-test.true took) in
    let step = rule.bytes_step _ _ _ _ _ c.loop-i-test.true took in
    let passed = rule.bytes_passed _ _ _ _ _ _ c.loop-i-test.true took c.passed_end-passed.ensures.is in
    let written = capped_turn c.loop-i.invariant.reached step added (omega arith) in
    record {
      reached = rw c.next_state-state.ensures (capped_turn written passed c.add_slice-next.ensures (omega arith));
      room = c.add_part-begun.ensures.kept ∙ c.loop-i.invariant.room;
    }

pub shape_of-out : goal.shape_of-out
shape_of-out g c = length_capped c.loop-i.invariant.reached

pub returns : goal.returns
returns g c = capped_end c.loop-i.invariant.reached (g.met.R.ValueRule.bytes_none _ _ _ c.loop-i-test.false)
