use Rattle.parameter_names.specs.Names.{marked_len, distinct}
use Rattle.parameter_names.specs.NamesLaws.{marked_ahead, marked_inside, differ_step, differ_end}
use Rattle.lists.specs.CutBy.{cut_by}
use borrow.Author.Rules.{rules}
use native.Mathlib.Omega.{arith}
use lib.ListN.{length, drop}
use mathlib.Core.Path.{◌≡◌, refl, sym, ◌∙◌}
use Prim.Native.Nat.{◌-◌}
use Rattle.parameter_names.proofs.names.all_differ.Goals as goal

pub loop-i-init : goal.loop-i-init
loop-i-init c = refl

pub slice_bounds-is_new-count : goal.slice_bounds-is_new-count
slice_bounds-is_new-count c = omega (arith, marked_ahead c.args.s.now c.loop-i.i c.marked_end-end.result c.loop-i-test.true c.marked_end-end.ensures)

pub slice_bounds-is_new-start : goal.slice_bounds-is_new-start
slice_bounds-is_new-start c = omega (arith, marked_ahead c.args.s.now c.loop-i.i c.marked_end-end.result c.loop-i-test.true c.marked_end-end.ensures)

pub slice_bounds-is_new-end : goal.slice_bounds-is_new-end
slice_bounds-is_new-end c = marked_inside _ _ _ c.loop-i-test.true c.marked_end-end.ensures

pub returns-then-not-is_new : goal.returns-then-not-is_new
returns-then-not-is_new c = sym (c.loop-i.invariant ∙ differ_step _ _ _ c.loop-i-test.true c.marked_end-end.ensures ∙ rw (← c.is_new.ensures, c.if-not-is_new.true))

pub loop-i-smaller : goal.loop-i-smaller
loop-i-smaller c = omega (arith, marked_ahead c.args.s.now c.loop-i.i c.marked_end-end.result c.loop-i-test.true c.marked_end-end.ensures, c.loop-i-test.true)

pub loop-i-preserved : goal.loop-i-preserved
loop-i-preserved c = c.loop-i.invariant ∙ differ_step _ _ _ c.loop-i-test.true c.marked_end-end.ensures ∙ rw (← c.is_new.ensures, c.if-not-is_new.false)

pub returns : goal.returns
returns c = differ_end _ _ c.loop-i-test.false ∙ sym c.loop-i.invariant
