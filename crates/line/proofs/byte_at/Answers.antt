use Rattle.line.specs.LineLaws.{item_or}
use Rattle.line.proofs.byte_at.Goals as goal

pub returns : goal.returns
returns c = rw (c.unwrap_or.ensures, c.copied.ensures) (item_or c.args.s.now c.args.at c.get.result c.get.ensures.lookup)
