use Rattle.header_line.specs.NameLaws.{stops_by}
use native.Mathlib.Omega.{arith}
use Rattle.header_line.proofs.stops8.Goals as goal

pub returns : goal.returns
returns c = (omega arith, stops_by c.args.line.now c.args.i c.requires _ _ _ _ _ _ _ _ c.weigh.ensures c.weigh-2.ensures c.weigh-3.ensures c.weigh-4.ensures c.weigh-5.ensures c.weigh-6.ensures c.weigh-7.ensures c.weigh-8.ensures)
