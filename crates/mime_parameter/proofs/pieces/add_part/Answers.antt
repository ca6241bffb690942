use Rattle.mime_parameter.specs.WritingLaws.{part_added}
use native.Mathlib.Omega.{arith}
use Rattle.mime_parameter.proofs.pieces.add_part.Goals as goal

pub returns : goal.returns
returns c = part_added _ _ _ _ (omega arith) c.add_break-label.ensures c.add_part_label-value.ensures c.add_extended.ensures
