use Rattle.parameter.specs.ParameterLaws.{named}
use Rattle.parameter.specs.Parameter.{is_orcpt}
use Rattle.letter_case.specs.LetterCase.{bytes}
use Rattle.parameter.proofs.is_orcpt.Goals as goal

pub returns : goal.returns
unfolding bytes is_orcpt
returns c = named _ _ c.keyword_len.ensures c.part.ensures c.same_any_case.ensures
