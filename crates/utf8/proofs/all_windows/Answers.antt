use Rattle.std.proofs.Common.{refl, arith}
use Rattle.utf8.specs.Window.{all_at}
use Rattle.utf8.specs.WindowLaws.{window_more, window_done}
use Rattle.utf8.proofs.all_windows.Goals as goal

pub loop-i-init : goal.loop-i-init
unfolding all_at
loop-i-init g c = (omega arith, refl)

pub loop-i-preserved : goal.loop-i-preserved
loop-i-preserved g c = (omega arith, window_more g.W.Window.passes c.args.s.now c.loop-i.i c.loop-i.auto.i c.loop-i.invariant.1 c.holds-ok.ensures)

pub returns : goal.returns
returns g c = window_done g.W.Window.passes c.args.s.now c.loop-i.i c.loop-i.auto.i c.loop-i-test.false c.loop-i.invariant.0 c.loop-i.invariant.1
