use Rattle.parameterized_field.specs.WritingLaws.{name_within, value_is}
use native.Mathlib.Omega.{arith}
use borrow.Author.Rules.{rules}
use Rattle.parameterized_field.proofs.part.make_text.Goals as goal

pub overflow_add-name : goal.overflow_add-name
overflow_add-name c = omega (arith, name_within c.args.parameter.now c.token_end-name.result c.token_end-name.ensures, c.requires)

pub returns : goal.returns
returns c = rw (value_is _ _ c.token_end-name.ensures _ c.clip-value.ensures) at c.add_value_text.ensures
