use Rattle.row.specs.Row.{bounded}
use Rattle.std.proofs.Common.{ap, length, arith}
use Rattle.field.proofs.FieldLaws.{label_added, labelled_added, column_counted, encoded_added}
use Rattle.field.proofs.add_encoded.Goals as goal

pub returns : goal.returns
returns c =
    let before = c.prefix-before.ensures in
    let words = column_counted c.args.downgraded c.args.name.now (bounded c.args.text.now) c.add_after_label.ensures (omega (arith, ap length before, c.min.ensures)) in
    encoded_added _ _ _ (labelled_added (omega arith) _ _ (label_added (omega arith) _ _ (rw before at c.add_slice-start.ensures) c.add_slice-colon.ensures c.add_byte-words.ensures) words)
