use Rattle.std.proofs.Common.{arith, sym, ◌∙◌}
use Rattle.envelope_line.proofs.WriteLaws.{decoded_none, decoded_some}
use Rattle.parameter.specs.ParameterLaws.{param_part}
use Rattle.parameter.specs.FirstLaws.{alt_found, alt_missing}
use Rattle.buffer.specs.BufferLaws.{capped_none, capped_same}
use Rattle.envelope_line.proofs.output.add_new_path.Goals as goal

pub returns-in_default : goal.returns-in_default
returns-in_default c =
    let k = alt_missing (sym c.in_default.is ∙ c.alt_place.ensures) in
    capped_same (decoded_none k.0 k.1) (capped_none _ _ (omega arith))

pub returns : goal.returns
returns c =
    let k = alt_found (sym c.in-Some.is ∙ c.alt_place.ensures) in
    capped_same (decoded_some k.0 k.1 (c.part.ensures ∙ param_part _ _ _ c.param_end.ensures)) c.add_decoded.ensures

pub overflow_add-start : goal.overflow_add-start
overflow_add-start c = let k = alt_found (sym c.in-Some.is ∙ c.alt_place.ensures) in omega (arith, k.1)
