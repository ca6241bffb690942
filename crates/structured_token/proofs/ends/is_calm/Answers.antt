use Rattle.structured_token.proofs.TokensLaws.{calm_plain, calm_space}
use Rattle.structured_token.proofs.ends.is_calm.Goals as goal

pub returns-then-is_plain_ascii : goal.returns-then-is_plain_ascii
returns-then-is_plain_ascii c = calm_plain _ _ c.is_plain_ascii.ensures c.if-is_plain_ascii.true

pub returns : goal.returns
returns c = calm_space _ _ c.is_plain_ascii.ensures c.if-is_plain_ascii.false c.byte_at.ensures c.ends_space.ensures
