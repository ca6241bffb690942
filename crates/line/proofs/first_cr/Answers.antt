use Rattle.line.specs.CrLaws.{step_last, step_first}
use Rattle.line.proofs.first_cr.Goals as goal

pub returns-then-s-e : goal.returns-then-s-e
returns-then-s-e c = step_last _ _ _ c.next_cr-e.ensures c.if-s-e.true

pub returns : goal.returns
returns c = step_first _ _ _ c.next_cr-e.ensures
