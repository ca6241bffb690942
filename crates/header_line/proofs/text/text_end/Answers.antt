use Rattle.header_line.specs.LineLaws.{text_end_lem}
use Rattle.header_line.proofs.text.text_end.Goals as goal

pub returns : goal.returns
returns c = text_end_lem c.loop-next.invariant c.in_default.ensures
