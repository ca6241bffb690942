use Rattle.std.proofs.Common.{◌≡◌, ◌+◌, drop, refl, sym, ◌∙◌, arith, rules}
use Rattle.comment.proofs.CommentLaws.{not_ended, ended_at, ended_some}
use Rattle.field_parameter.specs.Parameter.{parameter_len}
use Rattle.field_parameter.specs.ParameterLaws.{none_here, ends_here, no_name, ends_name, no_mark, no_value, goes_on_lem, found}
use Rattle.field_parameter.proofs.parameter_end.Goals as goal

pub returns-then-name-at-clause-is : goal.returns-then-name-at-clause-is
returns-then-name-at-clause-is c = none_here _ _ (no_name _ _ _ _ c.token_end-name.ensures c.if-name-at.true).0

pub returns-then-s-name-clause-is : goal.returns-then-s-name-clause-is
returns-then-s-name-clause-is c = none_here _ _ (ends_name _ _ _ _ c.token_end-name.ensures c.if-s-name.true).0

pub returns-then-s-name-ne61-clause-is : goal.returns-then-s-name-ne61-clause-is
returns-then-s-name-ne61-clause-is c = none_here _ _ (no_mark _ _ _ _ c.token_end-name.ensures c.if-s-name-ne61.true).0

pub returns-in_err-end-clause-is : goal.returns-in_err-end-clause-is
returns-in_err-end-clause-is c =
    let z = not_ended _ _ c.in_err-end.ensures refl in
    let e = none_here c.args.at (parameter_len c.args.comments (drop c.args.at c.args.s.now)) (no_value _ _ _ _ c.token_end-name.ensures c.if-name-at.false c.if-s-name.false c.if-s-name-ne61.false (c.token_end-name.result + 1) (omega (arith, z)) refl).0 in
    rw (← e) (search rules)

pub returns-then-not-ends_value-clause-is : goal.returns-then-not-ends_value-clause-is
returns-then-not-ends_value-clause-is c =
    let some = ended_some _ _ c.in_ok-end.ensures refl in
    let ends = ended_at _ _ c.in_ok-end.ensures refl in
    none_here _ _ (goes_on_lem _ _ _ _ c.token_end-name.ensures c.if-name-at.false c.if-s-name.false c.if-s-name-ne61.false _ ends (λ e. absurd (omega (arith, some, ends, e))) c.token_at-token.ensures.what c.ends_value.ensures c.if-not-ends_value.true).0

pub returns : goal.returns
returns c =
    let some = ended_some _ _ c.in_ok-end.ensures refl in
    let ends = ended_at _ _ c.in_ok-end.ensures refl in
    let f = found _ _ _ _ c.token_end-name.ensures c.if-name-at.false c.if-s-name.false c.if-s-name-ne61.false _ ends (λ e. absurd (omega (arith, some, ends, e))) c.token_at-token.ensures.what c.ends_value.ensures c.if-not-ends_value.false in
    record { is = ends_here _ _ f.0 (omega (arith, ends, c.token_end-name.ensures)); within = f.1 }
