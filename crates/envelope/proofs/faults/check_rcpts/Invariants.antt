use Rattle.std.proofs.Common.{◌-◌, length}
use Rattle.envelope.proofs.CheckLaws.{RcptsReached}
use Rattle.envelope.proofs.faults.check_rcpts.Given as goal

abbrev pub invariant-loop-i : goal.invariant-loop-i
invariant-loop-i l = RcptsReached l.rules l.envelope l.at l.initial.starts l.starts l.n l.i

abbrev pub decreases-loop-i : goal.decreases-loop-i
decreases-loop-i l = length l.envelope - l.i
