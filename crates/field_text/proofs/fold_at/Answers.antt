use Rattle.field_text.specs.TextLaws.{fold_short, fold_here}
use Rattle.field_text.proofs.fold_at.Goals as goal

pub returns-then-s-i-lt3 : goal.returns-then-s-i-lt3
returns-then-s-i-lt3 c = fold_short c.args.s.now c.args.i c.if-s-i-lt3.true

pub returns : goal.returns
returns c = rw c.is_blank.ensures (fold_here c.args.s.now c.args.i)
