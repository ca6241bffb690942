use Rattle.received.proofs.PassesLaws.{lines_are}
use borrow.Author.Rules.{rules}
use Rattle.received.proofs.lines.lines_fit.Goals as goal

pub returns : goal.returns
returns c = lines_are _ _ c.column_after.ensures c.column_after-colon.ensures c.value_column.ensures c.column_after-2.ensures
