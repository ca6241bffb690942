use Rattle.header_line.specs.NameLaws.{name_eight, name_sixteen}
use Rattle.header_line.proofs.name_run.Goals as goal

pub returns-then-m-ne0 : goal.returns-then-m-ne0
returns-then-m-ne0 c = name_eight c.args.line.now c.stops8-m.result c.stops8-m.ensures.0 c.if-m-ne0.true c.stops8-m.ensures.1

pub returns-then-k-ne0 : goal.returns-then-k-ne0
returns-then-k-ne0 c = name_sixteen c.args.line.now c.stops8-m.result c.stops8-k.result c.if-m-ne0.false c.stops8-m.ensures.1 c.stops8-k.ensures.0 c.if-k-ne0.true c.stops8-k.ensures.1
