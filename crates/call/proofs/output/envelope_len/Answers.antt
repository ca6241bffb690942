use Rattle.call.proofs.OutputLaws.{starts_written}
use borrow.Author.Rules.{rules}
use Rattle.call.proofs.output.envelope_len.Goals as goal

pub returns : goal.returns
returns c = (starts_written c.requires c.put.ensures).size
