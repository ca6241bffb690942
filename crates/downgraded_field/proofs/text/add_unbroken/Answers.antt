use native.Mathlib.Omega.{arith}
use Rattle.downgraded_field.specs.ShownLaws.{broken, unbroken}
use borrow.Author.Rules.{rules}
use Rattle.downgraded_field.proofs.text.add_unbroken.Goals as goal

pub returns-then-b : goal.returns-then-b
returns-then-b c = broken _ _ _ (omega arith) c.if-b.true

pub returns : goal.returns
returns c = unbroken _ c.if-b.false c.add_byte.ensures
