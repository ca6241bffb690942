use Rattle.parameter.specs.FirstLaws.{all_meet}
use Rattle.parameter.proofs.tail.are_orcpt_clean.Goals as goal

pub returns : goal.returns
returns c = all_meet _ _ _ c.first.ensures c.is_none.ensures
