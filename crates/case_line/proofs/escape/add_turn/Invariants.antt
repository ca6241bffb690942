use Rattle.std.proofs.Common.{◌-◌, length}
use Rattle.case_line.proofs.escape.add_turn.Given as goal

abbrev pub decreases-loop-i : goal.decreases-loop-i
decreases-loop-i l = length l.text - l.i
