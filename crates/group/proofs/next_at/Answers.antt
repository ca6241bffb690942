use Rattle.group.proofs.GroupLaws.{next_group, next_whole, next_other}
use native.Mathlib.Omega.{arith}
use mathlib.Core.Path.{refl, sym, ◌∙◌}
use Rattle.group.proofs.next_at.Goals as goal

pub overflow_add-e : goal.overflow_add-e
overflow_add-e c = omega (arith, c.part_from-f.ensures.within c.requires)

pub lost_group-requires : goal.lost_group-requires
lost_group-requires c = c.part_from-f.ensures.within c.requires

pub returns-in-Some : goal.returns-in-Some
returns-in-Some c = next_group c.requires c.part_from-f.ensures refl (sym c.is_colon.ensures ∙ c.if-is_colon.true) (rw c.in-Some.is at c.lost_group.ensures)

pub returns-in_default : goal.returns-in_default
returns-in_default c = next_whole c.requires c.part_from-f.ensures refl (rw c.in_default.is at c.lost_group.ensures)

pub returns-else-is_colon : goal.returns-else-is_colon
returns-else-is_colon c = next_other c.requires c.part_from-f.ensures refl (sym c.is_colon.ensures ∙ c.if-is_colon.false)
