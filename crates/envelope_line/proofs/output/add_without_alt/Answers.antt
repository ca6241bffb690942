use Rattle.std.proofs.Common.{arith, sym, ◌∙◌}
use Rattle.parameter.specs.FirstLaws.{alt_found, alt_missing}
use Rattle.envelope_line.proofs.WriteLaws.{without_none, without_some}
use Rattle.line.specs.LineLaws.{part_rest}
use Rattle.buffer.specs.BufferLaws.{capped_then, capped_same}
use Rattle.envelope_line.proofs.output.add_without_alt.Goals as goal

pub returns-in_default : goal.returns-in_default
returns-in_default c =
    let k = alt_missing (sym c.in_default.is ∙ c.alt_place.ensures) in
    capped_same (c.part.ensures ∙ part_rest c.args.line.now c.args.from ∙ sym (without_none k.0 k.1)) c.add_slice.ensures

pub returns : goal.returns
returns c =
    let k = alt_found (sym c.in-Some.is ∙ c.alt_place.ensures) in
    capped_same (rw (c.part-2.ensures, c.part-3.ensures, part_rest) (sym (without_some k.0 _ c.param_end.ensures k.1))) (capped_then c.add_slice-next.ensures c.add_slice-2.ensures (omega arith))

pub overflow_add-place : goal.overflow_add-place
overflow_add-place c = let k = alt_found (sym c.in-Some.is ∙ c.alt_place.ensures) in omega (arith, k.1)
