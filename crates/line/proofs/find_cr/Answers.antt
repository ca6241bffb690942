use Rattle.line.specs.CrLaws.{step_end, step_none, step_one}
use native.Mathlib.Omega.{arith}
use Rattle.line.proofs.find_cr.Goals as goal

pub returns-then-s-i : goal.returns-then-s-i
returns-then-s-i c = step_end _ _ c.if-s-i.true

pub returns-then-n-eq0 : goal.returns-then-n-eq0
returns-then-n-eq0 c = step_none _ _ _ _ c.crs64-c.ensures (omega arith) c.if-n-eq0.true

pub returns-then-n-eq1 : goal.returns-then-n-eq1
returns-then-n-eq1 c = rw c.from.ensures (step_one _ _ _ _ c.crs64-c.ensures (omega arith) c.if-n-eq1.true)
