use Rattle.mime_parameter.specs.WritingLaws.{alone_label_lem}
use native.Mathlib.Omega.{arith}
use Rattle.mime_parameter.proofs.label.add_alone_label.Goals as goal

pub returns : goal.returns
returns c = alone_label_lem _ (omega arith) c.add_slice-next.ensures c.add_slice.ensures
