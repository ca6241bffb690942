use Prim.Native.Nat.{◌-◌}
use lib.Dec.{eqb}
use lib.ListN.{length, drop}
use native.Mathlib.Omega.{arith}
use mathlib.Core.Path.{◌≡◌, refl, sym, ◌∙◌}
use Rattle.encoded_word.specs.Segments.{rendered}
use Rattle.structured_token.specs.Walk.{becoming}
use Rattle.received.specs.Received.{received_front, value_segments, column_after}
use Rattle.received.specs.Received.Place.{place}
use Rattle.received.proofs.PassesLaws.{column_step, column_end}
use borrow.Author.Rules.{rules}
use Rattle.received.proofs.lines.value_column.Goals as goal

pub loop-i-init : goal.loop-i-init
unfolding value_segments
loop-i-init c = refl

pub slice_bounds-token_column-count : goal.slice_bounds-token_column-count
slice_bounds-token_column-count c = omega (arith, c.token_at-kind.ensures.some c.loop-i-test.true)

pub slice_bounds-token_column-start : goal.slice_bounds-token_column-start
slice_bounds-token_column-start c = omega (arith, c.token_at-kind.ensures.some c.loop-i-test.true)

pub slice_bounds-token_column-end : goal.slice_bounds-token_column-end
slice_bounds-token_column-end c = c.token_at-kind.ensures.within c.loop-i-test.true

pub loop-i-smaller : goal.loop-i-smaller
loop-i-smaller c = omega (arith, c.token_at-kind.ensures.some c.loop-i-test.true)

pub loop-i-preserved : goal.loop-i-preserved
loop-i-preserved c = c.loop-i.invariant ∙ column_step _ c.loop-i-test.true c.token_at-kind.ensures c.goes_on-comments.ensures c.token_column-at.ensures

pub returns : goal.returns
returns c = sym (c.loop-i.invariant ∙ column_end _ _ _ _ c.loop-i-test.false)
