use Rattle.address_list.specs.Parts.{changes}
use mathlib.Core.Path.{refl, sym, ◌∙◌}
use Prim.Native.Nat.{◌-◌}
use native.Mathlib.Omega.{arith}
use lib.ListN.{length}
use Rattle.address_list.specs.TableLaws.{Walked, walked_start, walked_unfit, walked_next, walked_end}
use borrow.Author.Rules.{rules}
use Rattle.address_list.proofs.list.examine.Goals as goal

pub loop-i-init : goal.loop-i-init
loop-i-init c = walked_start _ _

pub overflow_add-e : goal.overflow_add-e
overflow_add-e c = omega (arith, c.part_from-f.ensures.within c.loop-i-test.true)

pub returns-then-is_unfit : goal.returns-then-is_unfit
returns-then-is_unfit c = walked_unfit c.loop-i.invariant c.loop-i-test.true c.part_from-f.ensures c.after-state.ensures (sym c.is_unfit.ensures ∙ c.if-is_unfit.true)

pub slice_bounds-changes-end : goal.slice_bounds-changes-end
slice_bounds-changes-end c = c.part_from-f.ensures.within c.loop-i-test.true

pub loop-i-smaller : goal.loop-i-smaller
loop-i-smaller c = omega (arith, c.part_from-f.ensures.within c.loop-i-test.true, c.part_from-f.ensures.some)

pub loop-i-preserved : goal.loop-i-preserved
loop-i-preserved c = walked_next c.loop-i.invariant c.loop-i-test.true c.part_from-f.ensures c.after-state.ensures refl (rw c.changes-changed.ensures)

pub returns : goal.returns
returns c = walked_end c.loop-i.invariant c.loop-i-test.false c.ended.ensures
