use Rattle.mime_parameter.specs.WritingLaws.{alone_added}
use native.Mathlib.Omega.{arith}
use Rattle.mime_parameter.proofs.pieces.add_alone.Goals as goal

pub returns : goal.returns
returns c = alone_added _ _ (omega arith) c.add_slice-label.ensures c.add_alone_label-value.ensures c.add_extended.ensures
