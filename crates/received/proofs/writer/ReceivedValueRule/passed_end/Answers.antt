use Rattle.structured_token.proofs.TokensLaws.{calm_within}
use Rattle.received.proofs.writer.ReceivedValueRule.passed_end.Goals as goal

pub returns-clause-within : goal.returns-clause-within
returns-clause-within c = calm_within c.args.value.now c.args.at c.calm_end.ensures
