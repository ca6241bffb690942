use Rattle.std.proofs.Common.{lit≤}
use Rattle.word_spelling.specs.HighCharLaws.{some_size}
use Rattle.row_length.specs.LengthLaws.{stepped_high, stepped_char}
use Rattle.row_length.proofs.character.high.Goals as goal

pub returns-in-Some-eq2 : goal.returns-in-Some-eq2
returns-in-Some-eq2 c = stepped_high (lit≤ tt) (some_size c.high_size.ensures c.in-Some-eq2.is c.in-Some-eq2.field-0-test)

pub returns-in-Some-eq3 : goal.returns-in-Some-eq3
returns-in-Some-eq3 c = stepped_high (lit≤ tt) (some_size c.high_size.ensures c.in-Some-eq3.is c.in-Some-eq3.field-0-test)

pub returns-in-Some-eq4 : goal.returns-in-Some-eq4
returns-in-Some-eq4 c = stepped_high (lit≤ tt) (some_size c.high_size.ensures c.in-Some-eq4.is c.in-Some-eq4.field-0-test)

pub returns-in_default : goal.returns-in_default
returns-in_default c = stepped_char c.args.s.now c.args.i _ _ _ c.requires c.cost_at.ensures.0 c.cost_at.ensures.1
