use Rattle.line.specs.LineLaws.{part_clipped}
use Rattle.line.proofs.part.Goals as goal

pub returns : goal.returns
returns c = part_clipped c.args.s.now _ _ _ _ c.clip-end.ensures c.clip-start.ensures
