use Rattle.std.proofs.Common.{arith, sym, ap, ◌∙◌}
use Rattle.parameter.specs.ParameterLaws.{one_alt, two_alts, no_alts, param_part}
use Rattle.parameter.specs.FirstLaws.{alt_found, alt_missing, alt_some, alt_none}
use Rattle.envelope_line.specs.FaultLaws.{only_alt_fault}
use Rattle.envelope_line.proofs.FaultLaws.{tail_unspaced, tail_no_params, tail_plain, tail_high, tail_two_alts, tail_one_alt}
use Rattle.envelope_line.proofs.faults.tail_fault.Goals as goal

pub returns-then-not-is_spaced : goal.returns-then-not-is_spaced
returns-then-not-is_spaced c = sym (tail_unspaced _ _ _ (sym c.is_spaced.ensures ∙ c.if-not-is_spaced.true))

pub returns-then-not-are_params : goal.returns-then-not-are_params
returns-then-not-are_params c = sym (tail_no_params _ _ _ (sym c.is_spaced.ensures ∙ c.if-not-is_spaced.false) (sym c.are_params.ensures ∙ c.if-not-are_params.true))

pub returns-then-ascii : goal.returns-then-ascii
returns-then-ascii c =
    let k = alt_missing (sym c.in_default.is ∙ c.alt_place.ensures) in
    tail_plain _ _ _ (sym c.is_spaced.ensures ∙ c.if-not-is_spaced.false) (sym c.are_params.ensures ∙ c.if-not-are_params.false) (no_alts k.0 k.1) c.if-ascii.true

pub returns-in_default : goal.returns-in_default
returns-in_default c =
    let k = alt_missing (sym c.in_default.is ∙ c.alt_place.ensures) in
    tail_high _ _ _ (sym c.is_spaced.ensures ∙ c.if-not-is_spaced.false) (sym c.are_params.ensures ∙ c.if-not-are_params.false) (no_alts k.0 k.1) c.if-ascii.false

pub returns-then-is_some : goal.returns-then-is_some
returns-then-is_some c =
    let k = alt_found (sym c.in-Some.is ∙ c.alt_place.ensures) in
    let m = alt_some c.alt_place-2.ensures (sym c.is_some.ensures ∙ c.if-is_some.true) in
    sym (tail_two_alts _ _ _ (sym c.is_spaced.ensures ∙ c.if-not-is_spaced.false) (sym c.are_params.ensures ∙ c.if-not-are_params.false) (two_alts k.0 _ c.param_end-end.ensures k.1 m.0 m.1))

pub returns : goal.returns
returns c =
    let k = alt_found (sym c.in-Some.is ∙ c.alt_place.ensures) in
    let m = alt_none c.alt_place-2.ensures (sym c.is_some.ensures ∙ c.if-is_some.false) in
    c.only_alt_fault.ensures
    ∙ ap (only_alt_fault _ _) (c.part.ensures ∙ param_part _ _ _ c.param_end-end.ensures)
    ∙ sym (tail_one_alt _ _ _ (sym c.is_spaced.ensures ∙ c.if-not-is_spaced.false) (sym c.are_params.ensures ∙ c.if-not-are_params.false) (one_alt k.0 _ c.param_end-end.ensures k.1 m.0 m.1))

pub overflow_add-start : goal.overflow_add-start
overflow_add-start c = let k = alt_found (sym c.in-Some.is ∙ c.alt_place.ensures) in omega (arith, k.1)
