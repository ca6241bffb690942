use Rattle.hex_digit.proofs.HexLaws.{in_range, value_decimal, value_letter, value_other}
use borrow.Author.Rules.{rules}
use Rattle.hex_digit.proofs.value.Goals as goal

pub overflow_sub-result : goal.overflow_sub-result
overflow_sub-result c = (in_range c.args.b 48 57 c.if-b.true).0

pub returns-then-b : goal.returns-then-b
returns-then-b c = value_decimal c.args.b c.if-b.true

pub overflow_sub-result-then-b-2 : goal.overflow_sub-result-then-b-2
overflow_sub-result-then-b-2 c = (in_range c.args.b 65 70 c.if-b-2.true).0

pub returns-then-b-2 : goal.returns-then-b-2
returns-then-b-2 c = value_letter c.args.b c.if-b.false c.if-b-2.true

pub returns : goal.returns
returns c = value_other c.args.b c.if-b.false c.if-b-2.false
