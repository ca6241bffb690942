use Rattle.group.proofs.GroupLaws.{Passing, passing_start, passing_next, passing_end, passing_over}
use lib.ListN.{length}
use borrow.Author.Rules.{rules}
use native.Mathlib.Omega.{arith}
use Prim.Native.Nat.{◌-◌}
use mathlib.Core.Path.{refl, sym, ◌∙◌}
use Rattle.group.proofs.lost_group.Goals as goal

pub loop-i-init : goal.loop-i-init
loop-i-init c = passing_start _ _ _ c.requires

pub overflow_add-e : goal.overflow_add-e
overflow_add-e c = omega (arith, c.part_from-f.ensures.within c.loop-i-test.true)

pub returns-then-is_semicolon : goal.returns-then-is_semicolon
returns-then-is_semicolon c = passing_end c.loop-i.invariant c.loop-i-test.true c.part_from-f.ensures refl (sym c.is_semicolon.ensures ∙ c.if-is_semicolon.true) c.then_some.ensures

pub slice_bounds-is_lost-end : goal.slice_bounds-is_lost-end
slice_bounds-is_lost-end c = c.part_from-f.ensures.within c.loop-i-test.true

pub loop-i-smaller : goal.loop-i-smaller
loop-i-smaller c = omega (arith, c.part_from-f.ensures.within c.loop-i-test.true, c.part_from-f.ensures.some)

pub loop-i-preserved : goal.loop-i-preserved
loop-i-preserved c = passing_next c.loop-i.invariant c.loop-i-test.true c.part_from-f.ensures refl (sym c.is_semicolon.ensures ∙ c.if-is_semicolon.false) c.is_lost-lost.ensures

pub returns : goal.returns
returns c = passing_over c.loop-i.invariant c.loop-i-test.false c.then_some-2.ensures
