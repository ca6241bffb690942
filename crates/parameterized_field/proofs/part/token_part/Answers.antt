use Rattle.parameterized_field.specs.StepLaws.{took_token}
use borrow.Author.Rules.{rules}
use Rattle.parameterized_field.proofs.part.token_part.Goals as goal

pub returns : goal.returns
returns c = took_token c.requires c.token_at-kind.ensures
