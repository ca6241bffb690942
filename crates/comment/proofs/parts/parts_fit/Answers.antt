use Prim.Native.Nat.{◌-◌}
use mathlib.Core.Bool.{true, false}
use mathlib.Core.Path.{◌≡◌, refl, sym, ◌∙◌}
use lib.ListN.{length, drop}
use native.Mathlib.Omega.{arith}
use borrow.Author.Rules.{rules}
use borrow.Author.Tests.{not-true, not-false}
use Rattle.lists.specs.Lists.{all}
use Rattle.comment.specs.Parts.{parts, fits}
use Rattle.comment.proofs.PartsLaws.{part_beyond, part_end_within, fit_over, fit_at}
use Rattle.comment.proofs.parts.parts_fit.Goals as goal

pub loop-i-init : goal.loop-i-init
loop-i-init c = refl

pub slice_bounds-part_fits-count : goal.slice_bounds-part_fits-count
slice_bounds-part_fits-count c = omega (arith, part_beyond _ _ c.loop-i-test.true _ c.part_end-e.ensures)

pub slice_bounds-part_fits-start : goal.slice_bounds-part_fits-start
slice_bounds-part_fits-start c = omega (arith, part_beyond _ _ c.loop-i-test.true _ c.part_end-e.ensures)

pub slice_bounds-part_fits-end : goal.slice_bounds-part_fits-end
slice_bounds-part_fits-end c = part_end_within _ _ c.loop-i-test.true _ c.part_end-e.ensures

pub returns-then-not-part_fits : goal.returns-then-not-part_fits
returns-then-not-part_fits c = sym (c.loop-i.invariant ∙ fit_at _ _ c.loop-i-test.true _ c.part_end-e.ensures false (sym (not-true _ c.if-not-part_fits.true-raw) ∙ c.part_fits.ensures))

pub loop-i-smaller : goal.loop-i-smaller
loop-i-smaller c = omega (arith, part_beyond _ _ c.loop-i-test.true _ c.part_end-e.ensures)

pub loop-i-preserved : goal.loop-i-preserved
loop-i-preserved c = c.loop-i.invariant ∙ fit_at _ _ c.loop-i-test.true _ c.part_end-e.ensures true (sym (not-false _ c.if-not-part_fits.false-raw) ∙ c.part_fits.ensures)

pub returns : goal.returns
returns c = sym (c.loop-i.invariant ∙ fit_over _ _ c.loop-i-test.false)
