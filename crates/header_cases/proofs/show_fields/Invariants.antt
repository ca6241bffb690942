use Rattle.std.proofs.Common.{◌-◌, length}
use Rattle.header_cases.proofs.show_fields.Given as goal

abbrev pub decreases-loop-at : goal.decreases-loop-at
decreases-loop-at g l = length l.h - l.at
