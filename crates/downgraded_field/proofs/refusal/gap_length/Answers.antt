use native.Mathlib.Omega.{arith}
use Rattle.downgraded_field.specs.ShownLaws.{gap_length}
use Rattle.downgraded_field.proofs.refusal.gap_length.Goals as goal

pub returns : goal.returns
returns c = gap_length _ c.add_gap.ensures (omega arith)
