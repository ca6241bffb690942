use Rattle.parameter.specs.ParameterLaws.{named}
use Rattle.parameter.specs.Parameter.{is_alt}
use Rattle.letter_case.specs.LetterCase.{bytes}
use Rattle.parameter.proofs.is_alt.Goals as goal

pub returns : goal.returns
unfolding bytes is_alt
returns c = named _ _ c.keyword_len.ensures c.part.ensures c.same_any_case.ensures
