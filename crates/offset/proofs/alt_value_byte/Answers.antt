use Rattle.std.proofs.Common.{refl, arith, sym, ◌∙◌}
use Rattle.parameter.specs.FirstLaws.{in_line_some, in_line_none}
use Rattle.offset.specs.OffsetLaws.{alt_byte_none, alt_byte}
use Rattle.offset.proofs.alt_value_byte.Goals as goal

pub returns-in_default : goal.returns-in_default
returns-in_default c = alt_byte_none _ _ _ _ c.tail_start.ensures.1 refl (in_line_none _ _ (sym c.in_default.is ∙ c.alt_place.ensures))

pub overflow_add-start : goal.overflow_add-start
overflow_add-start c = let k = in_line_some _ _ (sym c.in-Some.is ∙ c.alt_place.ensures) in omega (arith, k.0, k.1)

pub returns : goal.returns
returns c =
    let k = in_line_some _ _ (sym c.in-Some.is ∙ c.alt_place.ensures) in
    alt_byte _ _ _ _ c.tail_start.ensures.1 k.0 _ c.param_end.ensures c.part.ensures (omega (arith, k.0, k.1)) _ _ _ _ c.keyword_len-size.ensures c.place_after.ensures c.place_after-2.ensures c.clip.ensures (omega arith)
