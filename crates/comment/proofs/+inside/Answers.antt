use Rattle.std.proofs.Common.{◌≡◌, ◌+◌, ◌≤◌, length, refl, sym, ◌∙◌, arith}
use Rattle.lists.specs.NonzeroLaws.{none_of, some_of, not_found, found_is, found_some}
use Rattle.comment.specs.CommentLaws.{close_at}
use Rattle.comment.proofs.CommentLaws.{close_end, run_unclosed, run_opens, run_closes_last, nested_none, nested_some, nested_beyond}
use Rattle.comment.proofs.+inside.Goals as goal

pub returns-then-s-p : goal.returns-then-s-p
returns-then-s-p t c = none_of (c.loop-i.invariant.0 ∙ run_unclosed _ _ _ _ c.run_end-p.ensures c.if-s-p.true)

pub returns-then-s-p-eq41 : goal.returns-then-s-p-eq41
returns-then-s-p-eq41 t c = some_of (c.run_end-p.result + 1) (c.loop-i.invariant.0 ∙ run_closes_last _ _ _ _ c.run_end-p.ensures c.if-s-p.false c.if-s-p-eq41.true refl) (λ z. omega arith)

pub returns-in_err-i : goal.returns-in_err-i
returns-in_err-i t c = c.from_residual.ensures ∙ none_of (c.loop-i.invariant.0 ∙ run_opens _ _ _ _ c.run_end-p.ensures c.if-s-p.false c.if-s-p-eq41.false ∙ nested_none _ _ _ refl (not_found _ c.inside.ensures c.in_err-i.was))

pub loop-i-smaller : goal.loop-i-smaller
loop-i-smaller t c = omega (arith, nested_beyond _ _ _ (found_is _ c.inside.ensures c.in_ok-i.was) (λ z. omega (arith, found_some _ c.inside.ensures c.in_ok-i.was)))

pub loop-i-preserved : goal.loop-i-preserved
loop-i-preserved t c =
    let is : c.in_ok-i.i ≡ close_at 0 c.args.s.now (c.run_end-p.result + 1) = found_is _ c.inside.ensures c.in_ok-i.was in
    let has : c.in_ok-i.i ≡ 0 → ⊥ = λ z. omega (arith, found_some _ c.inside.ensures c.in_ok-i.was) in
    (c.loop-i.invariant.0 ∙ run_opens _ _ _ _ c.run_end-p.ensures c.if-s-p.false c.if-s-p-eq41.false ∙ nested_some _ _ _ is has, omega (arith, nested_beyond _ _ _ is has))

pub returns : goal.returns
returns t c = none_of (c.loop-i.invariant.0 ∙ close_end _ _ _ c.loop-i-test.false)
