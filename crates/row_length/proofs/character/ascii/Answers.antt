use Rattle.row_length.specs.LengthLaws.{stepped_ascii, stepped_bytes}
use Rattle.row_length.proofs.character.ascii.Goals as goal

pub returns-then-s-j : goal.returns-then-s-j
returns-then-s-j c = stepped_bytes c.args.s.now c.args.i _ _ _ _ _ c.if-left-s.true c.requires.1 c.if-s-j.true c.cost_of-m1.ensures c.cost_of.ensures c.cost_of-then-s-j.ensures c.cost_of-then-s-j-2.ensures

pub returns-else-s-j : goal.returns-else-s-j
returns-else-s-j c = stepped_ascii c.args.s.now c.args.i _ _ c.requires.0 c.requires.1 c.cost_of-m1.ensures.0

pub returns-else-left-s : goal.returns-else-left-s
returns-else-left-s c = stepped_ascii c.args.s.now c.args.i _ _ c.requires.0 c.requires.1 c.cost_of-m1.ensures.0
