use Rattle.received.specs.LinesLaws.{column_stays, column_ends, column_goes}
use borrow.Author.Rules.{rules}
use Rattle.received.proofs.lines.column_next.Goals as goal

pub returns-then-column-gt999 : goal.returns-then-column-gt999
returns-then-column-gt999 c = column_stays _ _ c.if-column-gt999.true

pub returns-then-b-eq10 : goal.returns-then-b-eq10
returns-then-b-eq10 c = column_ends _ _ c.if-column-gt999.false c.if-b-eq10.true

pub returns : goal.returns
returns c = column_goes _ _ c.if-column-gt999.false c.if-b-eq10.false
