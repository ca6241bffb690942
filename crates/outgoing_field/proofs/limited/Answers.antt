use Rattle.outgoing_field.specs.Fate.{limited}
use Rattle.outgoing_field.proofs.FateLaws.{limited_over, limited_short}
use mathlib.Core.Path.{sym}
use Rattle.outgoing_field.proofs.limited.Goals as goal

pub returns-then-s-le-LIMIT : goal.returns-then-s-le-LIMIT
returns-then-s-le-LIMIT c = sym (limited_short _ c.if-s-le-LIMIT.true)

pub returns-else-s-le-LIMIT : goal.returns-else-s-le-LIMIT
returns-else-s-le-LIMIT c = limited_over _ c.if-s-le-LIMIT.false
