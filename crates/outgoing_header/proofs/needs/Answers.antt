use Rattle.outgoing_header.proofs.HeaderOutcomeLaws.{ample, needed_size}
use borrow.Author.Rules.{rules}
use Rattle.outgoing_header.proofs.needs.Goals as goal

pub returns-then-most-room : goal.returns-then-most-room
returns-then-most-room c = ample c.requires.0 c.requires.1 c.if-most-room.true

pub out_len-requires : goal.out_len-requires
out_len-requires c = c.requires.0

pub returns : goal.returns
returns c = needed_size c.out_len.ensures
