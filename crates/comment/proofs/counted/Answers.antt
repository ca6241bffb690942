use Prim.Native.Nat.{◌+◌, ◌-◌, ◌≤◌}
use mathlib.Core.Logic.{⊎_elim}
use mathlib.Core.Path.{◌≡◌, refl, sym, ◌∙◌}
use lib.ListN.{length}
use native.Mathlib.Omega.{arith}
use borrow.Author.Rules.{rules}
use Rattle.lists.specs.NonzeroLaws.{none_of, some_of}
use Rattle.comment.specs.CommentLaws.{close_at}
use Rattle.comment.proofs.CommentLaws.{close_end, run_unclosed, run_opens, run_closes, run_closes_last}
use Rattle.comment.proofs.counted.Goals as goal
use Rattle.comment.proofs.counted.Goals.{then-s-p-eq41+else-deeper-eq0, else-s-p-eq41}

pub loop-i-init : goal.loop-i-init
loop-i-init c = (refl, omega arith)

pub returns-then-s-p : goal.returns-then-s-p
returns-then-s-p c = none_of (c.loop-i.invariant.0 ∙ run_unclosed _ _ _ _ c.run_end-p.ensures c.if-s-p.true)

pub returns-then-deeper-eq0 : goal.returns-then-deeper-eq0
returns-then-deeper-eq0 c = some_of (c.run_end-p.result + 1) (c.loop-i.invariant.0 ∙ run_closes_last _ _ _ _ c.run_end-p.ensures c.if-s-p.false c.if-s-p-eq41.true c.if-deeper-eq0.true) (λ z. omega arith)

pub loop-i-preserved : goal.loop-i-preserved
loop-i-preserved c = elim c.if-s-p-eq41.branch [
  | then-s-p-eq41+else-deeper-eq0 w ↦ (rw w.deeper-is (c.loop-i.invariant.0 ∙ run_closes _ _ _ _ c.run_end-p.ensures c.if-s-p.false w.if-s-p-eq41.true w.if-deeper-eq0.false), omega (arith, w.deeper-is))
  | else-s-p-eq41 w ↦ (rw w.deeper-is (c.loop-i.invariant.0 ∙ run_opens _ _ _ _ c.run_end-p.ensures c.if-s-p.false w.if-s-p-eq41.false), omega (arith, w.deeper-is))
]

pub returns : goal.returns
returns c = none_of (c.loop-i.invariant.0 ∙ close_end _ _ _ c.loop-i-test.false)
