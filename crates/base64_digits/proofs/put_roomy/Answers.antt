use Rattle.std.proofs.Common.{◌≤◌, ◌∙◌, length, arith, refl}
use Rattle.base64_digits.proofs.WritingLaws.{five_front, five_digits}
use Rattle.buffer.specs.BufferLaws.{reached_start, reached_then, reached_last, length_appended, length_reached}
use Rattle.base64_digits.proofs.put_roomy.Goals as goal

pub loop-five-init : goal.loop-five-init
loop-five-init c = (refl, reached_start _ _ _)

pub put_quads-next-requires : goal.put_quads-next-requires
put_quads-next-requires c = omega (arith, c.requires, c.in-Some.ensures.cases.2, length_reached c.loop-five.invariant.1)

pub loop-five-preserved : goal.loop-five-preserved
loop-five-preserved c =
    let h = c.in-Some.ensures.cases in
    let long : 15 ≤ length c.loop-five.rest.now = omega (arith, h.2) in
    (omega (arith, c.put_quads-next.ensures.place, five_digits c.loop-five.rest.now h.0 long, h.2), reached_then _ _ c.loop-five.invariant.1 (five_front c.loop-five.rest.now h.0 h.1 long) c.put_quads-next.ensures)

pub put_groups-requires : goal.put_groups-requires
put_groups-requires c = omega (arith, c.requires, length_reached c.loop-five.invariant.1)

pub shape_of-out : goal.shape_of-out
shape_of-out c = length_appended c.put_groups.ensures ∙ length_reached c.loop-five.invariant.1

pub returns : goal.returns
returns c = reached_last c.loop-five.invariant.1 c.put_groups.ensures
