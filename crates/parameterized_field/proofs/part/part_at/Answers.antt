use borrow.Author.Tests.{not-true, not-false}
use Rattle.std.proofs.Common.{◌≡◌, refl, arith, not-suc-le-zero}
use Rattle.comment.proofs.CommentLaws.{not_ended, ended_at, ended_some}
use Rattle.parameterized_field.specs.StepLaws.{not_after, no_parameter, parameter_taken}
use Rattle.parameterized_field.proofs.part.part_at.Goals as goal

pub returns-then-not-state : goal.returns-then-not-state
returns-then-not-state c = not_after _ _ _ c.token_part.ensures (not-true _ c.if-not-state.true) _

pub slice_bounds-parameter_kind-end : goal.slice_bounds-parameter_kind-end
slice_bounds-parameter_kind-end c = c.in-Some.ensures.within (omega (arith, c.requires))

pub returns-in-Some : goal.returns-in-Some
returns-in-Some c =
    let some = ended_some _ _ c.in-Some.ensures.is refl in
    let ends = ended_at _ _ c.in-Some.ensures.is refl in
    rw c.parameter_kind-kind.ensures.parameter (parameter_taken _ _ _ _ _ (not-false _ c.if-not-state.false) (ends, c.in-Some.ensures.within) (λ e. not-suc-le-zero {n = 0} (omega (arith, some, ends, e))) c.requires c.parameter_kind-kind.ensures.converted)

pub returns-in-None : goal.returns-in-None
returns-in-None c =
    let z = not_ended _ _ c.in-None.ensures.is refl in
    no_parameter _ _ _ c.token_part-in-None.ensures c.args.at (omega (arith, z)) refl _
