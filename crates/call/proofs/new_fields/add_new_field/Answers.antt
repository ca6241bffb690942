use Rattle.call.proofs.NewFieldLaws.{new_field_none, new_field_some}
use native.Mathlib.Omega.{arith}
use borrow.Author.Rules.{rules}
use Rattle.call.proofs.new_fields.add_new_field.Goals as goal

pub returns-then-text-eq0 : goal.returns-then-text-eq0
returns-then-text-eq0 c = new_field_none _ _ _ _ c.if-text-eq0.true (omega arith)

pub returns : goal.returns
returns c = new_field_some _ _ c.if-text-eq0.false c.requires c.add_labelled.ensures
