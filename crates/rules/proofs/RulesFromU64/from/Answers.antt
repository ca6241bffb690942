use Rattle.rules.specs.RulesLaws.{setting_spool, setting_current}
use Rattle.rules.proofs.RulesFromU64.from.Goals as goal

pub returns-then-setting-eq0 : goal.returns-then-setting-eq0
returns-then-setting-eq0 c = setting_spool _ c.if-setting-eq0.true

pub returns : goal.returns
returns c = setting_current _ c.if-setting-eq0.false
