use Rattle.std.proofs.Common.{◌+◌, ◌-◌, length}
use Rattle.word_cases.proofs.show_fronts.Given as goal

abbrev pub decreases-loop-end : goal.decreases-loop-end
decreases-loop-end g l = length l.text + 1 - l.end
