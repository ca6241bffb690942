use Prim.Native.Nat.{◌-◌}
use mathlib.Core.Path.{◌≡◌, refl, sym, ◌∙◌}
use lib.ListN.{length, drop}
use native.Mathlib.Omega.{arith}
use borrow.Author.Rules.{rules}
use Rattle.comment.proofs.PartsLaws.{part_beyond, part_end_within}
use Rattle.received.specs.Received.{column_after}
use Rattle.received.specs.CommentLinesLaws.{comment_step, comment_over, comment_bytes}
use Rattle.received.proofs.lines.comment_column.Goals as goal

pub loop-i-init : goal.loop-i-init
loop-i-init c = refl

pub slice_bounds-part_column-count : goal.slice_bounds-part_column-count
slice_bounds-part_column-count c = omega (arith, part_beyond _ _ c.loop-i-test.true _ c.part_end-e.ensures)

pub slice_bounds-part_column-start : goal.slice_bounds-part_column-start
slice_bounds-part_column-start c = omega (arith, part_beyond _ _ c.loop-i-test.true _ c.part_end-e.ensures)

pub slice_bounds-part_column-end : goal.slice_bounds-part_column-end
slice_bounds-part_column-end c = part_end_within _ _ c.loop-i-test.true _ c.part_end-e.ensures

pub loop-i-smaller : goal.loop-i-smaller
loop-i-smaller c = omega (arith, part_beyond _ _ c.loop-i-test.true _ c.part_end-e.ensures)

pub loop-i-preserved : goal.loop-i-preserved
loop-i-preserved c = c.loop-i.invariant ∙ comment_step _ _ _ _ c.loop-i-test.true c.part_end-e.ensures c.part_column-at.ensures

pub returns : goal.returns
returns c = sym (c.loop-i.invariant ∙ comment_over _ _ _ c.loop-i-test.false)
