use Rattle.std.proofs.Common.{◌≤◌, ◌∙◌, length, arith, refl}
use Rattle.base64_digits.specs.Base64.{in_base64}
use Rattle.base64_digits.proofs.WritingLaws.{quad_front, two_left, one_left, none_left}
use Rattle.buffer.specs.BufferLaws.{reached_start, reached_then, reached_last, reached_end, length_appended, length_reached}
use Rattle.base64_digits.proofs.put_groups.Goals as goal

pub loop-group-init : goal.loop-group-init
loop-group-init c = (refl, reached_start _ _ _)

pub put_quad-next-requires : goal.put_quad-next-requires
put_quad-next-requires c = omega (arith, c.requires, c.in-Some.ensures.cases.2, length_reached c.loop-group.invariant.1)

pub loop-group-preserved : goal.loop-group-preserved
unfolding in_base64
loop-group-preserved c =
    let h = c.in-Some.ensures.cases in
    let long : 3 ≤ length c.loop-group.rest.now = omega (arith, h.2) in
    (omega (arith, c.put_quad-next.ensures.place, h.2), reached_then _ _ c.loop-group.invariant.1 (quad_front c.loop-group.rest.now h.0 h.1 long) c.put_quad-next.ensures)

pub put_two-requires : goal.put_two-requires
put_two-requires c = omega (arith, c.requires, length_reached c.loop-group.invariant.1)

pub shape_of-out-then-rest-eq2 : goal.shape_of-out-then-rest-eq2
shape_of-out-then-rest-eq2 c = length_appended c.put_two.ensures ∙ length_reached c.loop-group.invariant.1

pub returns-then-rest-eq2 : goal.returns-then-rest-eq2
returns-then-rest-eq2 c = reached_last c.loop-group.invariant.1 (rw (two_left c.loop-group.rest.now c.if-rest-eq2.true) c.put_two.ensures)

pub put_one-requires : goal.put_one-requires
put_one-requires c = omega (arith, c.requires, length_reached c.loop-group.invariant.1)

pub shape_of-out-then-rest-eq1 : goal.shape_of-out-then-rest-eq1
shape_of-out-then-rest-eq1 c = length_appended c.put_one.ensures ∙ length_reached c.loop-group.invariant.1

pub returns-then-rest-eq1 : goal.returns-then-rest-eq1
returns-then-rest-eq1 c = reached_last c.loop-group.invariant.1 (rw (one_left c.loop-group.rest.now c.if-rest-eq1.true) c.put_one.ensures)

pub shape_of-out : goal.shape_of-out
shape_of-out c = length_reached c.loop-group.invariant.1

pub returns : goal.returns
returns c =
    let none : length c.loop-group.rest.now ≤ 0 = omega (arith, c.in_default.ensures.cases, c.if-rest-eq2.false, c.if-rest-eq1.false) in
    reached_end c.loop-group.invariant.1 (none_left c.loop-group.rest.now none)
