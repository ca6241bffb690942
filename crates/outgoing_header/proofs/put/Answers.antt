use Rattle.outgoing_header.proofs.HeaderOutcomeLaws.{out_wrote}
use borrow.Author.Rules.{rules}
use Rattle.outgoing_header.proofs.put.Goals as goal

pub returns : goal.returns
returns c = out_wrote c.requires c.add_fields.ensures
