use Rattle.received_token.proofs.ClauseLaws.{for_is}
use Rattle.received_token.proofs.clause.is_for_there.Goals as goal

pub returns : goal.returns
returns c = for_is _ _ c.part.ensures c.same_any_case.ensures c.byte_at-after.ensures c.is_white.ensures
