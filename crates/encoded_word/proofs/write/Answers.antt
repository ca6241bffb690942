use Rattle.row.specs.Row.{bounded}
use lib.Dec.{lit≤}
use Rattle.row.proofs.RowLaws.{row_after_none}
use Rattle.encoded_word.proofs.write.Goals as goal

pub returns : goal.returns
returns c = rw (← row_after_none 63 (bounded c.args.text.now) (lit≤ tt)) c.write_after.ensures
