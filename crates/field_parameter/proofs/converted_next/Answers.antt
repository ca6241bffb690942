use Rattle.std.proofs.Common.{◌≡◌, refl, sym, ◌∙◌, arith}
use Rattle.comment.proofs.CommentLaws.{not_ended, ended_at, ended_some}
use Rattle.field_parameter.specs.ParameterLaws.{next_none, next_absent, next_by}
use Rattle.field_parameter.proofs.converted_next.Goals as goal

pub returns-then-s-at : goal.returns-then-s-at
returns-then-s-at c = next_none _ _ _ c.if-s-at.true

pub slice_bounds-is_converted-end : goal.slice_bounds-is_converted-end
slice_bounds-is_converted-end c = c.in-Some.ensures.within (omega (arith, c.if-s-at.false))

pub returns-in-Some : goal.returns-in-Some
returns-in-Some c =
    let some = ended_some _ _ c.in-Some.ensures.is refl in
    let ends = ended_at _ _ c.in-Some.ensures.is refl in
    next_by _ _ _ _ ends (omega (arith, ends, some)) c.is_converted.ensures

pub returns-in-None : goal.returns-in-None
returns-in-None c = let z = not_ended _ _ c.in-None.ensures.is refl in next_absent c.args.comments c.args.s.now c.args.at c.args.at (omega (arith, z)) (omega arith)
