use Rattle.header_line.specs.LineLaws.{shaped_by, unshaped}
use Rattle.header_line.proofs.is_shaped.Goals as goal

pub returns-then-not-line : goal.returns-then-not-line
returns-then-not-line c = unshaped c.args.limit c.args.first c.args.line.now c.if-not-line.true

pub returns : goal.returns
returns c = shaped_by c.args.limit c.args.first c.args.line.now c.starts_well.result c.if-not-line.false c.starts_well.ensures
