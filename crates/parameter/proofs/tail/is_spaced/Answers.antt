use Rattle.parameter.specs.ParameterLaws.{spaced_at, spaced_end}
use Rattle.parameter.proofs.tail.is_spaced.Goals as goal

pub returns-then-at-line : goal.returns-then-at-line
returns-then-at-line c = spaced_at _ _ c.if-at-line.true

pub returns-else-at-line : goal.returns-else-at-line
returns-else-at-line c = spaced_end _ _ c.if-at-line.false
