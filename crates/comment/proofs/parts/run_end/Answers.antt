use Prim.Native.Nat.{◌+◌, ◌-◌}
use mathlib.Core.Bool.{false}
use mathlib.Core.Path.{◌≡◌, refl, sym, ◌∙◌}
use lib.ListN.{length, drop}
use native.Mathlib.Omega.{arith}
use Rattle.comment.specs.Comment.{is_paren, run_to, run_len}
use Rattle.comment.proofs.CommentLaws.{run_over}
use Rattle.comment.proofs.RunLaws.{text_over, text_found, text_last, text_escaped}
use borrow.Author.Rules.{rules}
use Rattle.comment.proofs.parts.run_end.Goals as goal

pub loop-i-init : goal.loop-i-init
loop-i-init c = refl

pub returns-then-s-p : goal.returns-then-s-p
unfolding run_len
returns-then-s-p c = sym (c.loop-i.invariant ∙ text_over is_paren _ _ _ c.run_end-p.ensures c.if-s-p.true)

pub returns-then-s-p-ne92 : goal.returns-then-s-p-ne92
unfolding run_len
returns-then-s-p-ne92 c = sym (c.loop-i.invariant ∙ text_found is_paren _ _ _ c.run_end-p.ensures c.if-s-p.false c.if-s-p-ne92.true)

pub returns-then-s-escaped : goal.returns-then-s-escaped
unfolding run_len
returns-then-s-escaped c = sym (c.loop-i.invariant ∙ text_last is_paren _ _ _ c.run_end-p.ensures c.if-s-p.false refl c.if-s-p-ne92.false c.if-s-escaped.true)

pub loop-i-smaller : goal.loop-i-smaller
loop-i-smaller c = omega (arith, c.run_end-p.ensures)

pub loop-i-preserved : goal.loop-i-preserved
loop-i-preserved c = c.loop-i.invariant ∙ text_escaped is_paren _ _ _ c.run_end-p.ensures c.if-s-p.false refl c.if-s-p-ne92.false c.if-s-escaped.false

pub returns : goal.returns
unfolding run_len
returns c = sym (c.loop-i.invariant ∙ run_over _ _ _ _ c.loop-i-test.false)
