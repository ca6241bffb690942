use mathlib.Core.Path.{ap, ◌∙◌}
use lib.ListN.{length}
use lib.Dec.{lit≤}
use Rattle.row.proofs.RowLaws.{row_after_none}
use Rattle.row_length.proofs.len.Goals as goal

pub returns : goal.returns
returns c = c.len_after.ensures ∙ ap length (row_after_none 63 _ (lit≤ tt))
