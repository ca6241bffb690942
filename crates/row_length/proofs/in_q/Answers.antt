use Rattle.word_choice.specs.EndInQLaws.{q_start, q_on}
use native.Mathlib.Omega.{arith}
use Rattle.row_length.proofs.in_q.Goals as goal

pub loop-e-init : goal.loop-e-init
loop-e-init c = q_start _ _

pub loop-e-preserved : goal.loop-e-preserved
loop-e-preserved c = q_on c.loop-e.invariant c.next-step.ensures (omega (arith, c.if-left-step.false, c.loop-e.invariant.small))
