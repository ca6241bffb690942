use Rattle.parameter_names.specs.Names.{marked_len}
use Rattle.parameter_names.specs.NamesLaws.{marked_ahead, marked_inside, new_step, new_end}
use Rattle.letter_case.specs.LetterCase.{same_any_case}
use Rattle.lists.specs.Lists.{all}
use Rattle.lists.specs.CutBy.{cut_by}
use borrow.Author.Rules.{rules}
use native.Mathlib.Omega.{arith}
use lib.ListN.{length, drop}
use mathlib.Core.Bool.{not}
use mathlib.Core.Path.{◌≡◌, refl, sym, ◌∙◌}
use Prim.Native.Nat.{◌-◌}
use Rattle.parameter_names.proofs.names.is_new.Goals as goal

pub loop-i-init : goal.loop-i-init
loop-i-init c = refl

pub slice_bounds-same_any_case-count : goal.slice_bounds-same_any_case-count
slice_bounds-same_any_case-count c = omega (arith, marked_ahead c.args.s.now c.loop-i.i c.marked_end-end.result c.loop-i-test.true c.marked_end-end.ensures)

pub slice_bounds-same_any_case-start : goal.slice_bounds-same_any_case-start
slice_bounds-same_any_case-start c = omega (arith, marked_ahead c.args.s.now c.loop-i.i c.marked_end-end.result c.loop-i-test.true c.marked_end-end.ensures)

pub slice_bounds-same_any_case-end : goal.slice_bounds-same_any_case-end
slice_bounds-same_any_case-end c = marked_inside _ _ _ c.loop-i-test.true c.marked_end-end.ensures

pub returns-then-same_any_case : goal.returns-then-same_any_case
returns-then-same_any_case c = sym (c.loop-i.invariant ∙ new_step _ _ _ c.loop-i-test.true c.marked_end-end.ensures _ c.same_any_case.ensures ∙ rw c.if-same_any_case.true)

pub loop-i-smaller : goal.loop-i-smaller
loop-i-smaller c = omega (arith, marked_ahead c.args.s.now c.loop-i.i c.marked_end-end.result c.loop-i-test.true c.marked_end-end.ensures, c.loop-i-test.true)

pub loop-i-preserved : goal.loop-i-preserved
loop-i-preserved c = c.loop-i.invariant ∙ new_step _ _ _ c.loop-i-test.true c.marked_end-end.ensures _ c.same_any_case.ensures ∙ rw c.if-same_any_case.false

pub returns : goal.returns
returns c = new_end _ _ c.loop-i-test.false _ ∙ sym c.loop-i.invariant
