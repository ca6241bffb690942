use Rattle.std.proofs.Common.{◌-◌, length}
use Rattle.read_downgraded.proofs.show_fields.Given as goal

abbrev pub decreases-loop-place : goal.decreases-loop-place
decreases-loop-place g l = length l.header - l.place
