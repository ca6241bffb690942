use Rattle.std.proofs.Common.{◌∙◌}
use Rattle.parameter.specs.FirstLaws.{first_alt_place}
use Rattle.parameter.proofs.tail.alt_place.Goals as goal

pub returns : goal.returns
returns c = c.first.ensures ∙ first_alt_place _ _
