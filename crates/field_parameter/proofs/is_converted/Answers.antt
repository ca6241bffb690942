use Rattle.field_parameter.specs.ParameterLaws.{converted_none, converted_by}
use borrow.Author.Rules.{rules}
use Rattle.field_parameter.proofs.is_converted.Goals as goal

pub returns-then-parameter-name : goal.returns-then-parameter-name
returns-then-parameter-name c = converted_none _ _ c.token_end-name.ensures c.if-parameter-name.true

pub returns : goal.returns
returns c = converted_by _ _ c.token_end-name.ensures c.if-parameter-name.false c.is_ascii.ensures
