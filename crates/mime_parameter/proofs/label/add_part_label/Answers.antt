use Rattle.mime_parameter.specs.WritingLaws.{part_label_lem, first_charset, no_charset}
use native.Mathlib.Omega.{arith}
use Rattle.mime_parameter.proofs.label.add_part_label.Goals as goal

pub returns-then-k-eq0 : goal.returns-then-k-eq0
returns-then-k-eq0 c = part_label_lem _ _ (first_charset _ c.if-k-eq0.true) (omega arith) c.add_slice-mark.ensures c.add_byte-number.ensures c.add_number-next.ensures c.add_slice.ensures

pub returns : goal.returns
returns c = part_label_lem _ _ (no_charset _ c.if-k-eq0.false) (omega arith) c.add_slice-mark.ensures c.add_byte-number.ensures c.add_number-next.ensures c.add_slice-2.ensures
