use Rattle.field.proofs.FieldLaws.{labelled_added}
use native.Mathlib.Omega.{arith}
use borrow.Author.Rules.{rules}
use Rattle.field.proofs.add_labelled.Goals as goal

pub returns : goal.returns
returns c = labelled_added (omega arith) _ _ c.add_slice-words.ensures c.add_after_label.ensures
