use Rattle.line_stop.specs.Product.{both}
use Rattle.line_stop.proofs.PlaceLaws.{alive_never, alive_room}
use Rattle.line_stop.proofs.is_alive.Goals as goal

pub returns-then-limit-n : goal.returns-then-limit-n
returns-then-limit-n g c = alive_never (both g.F.LineForm.form) _ _ (c.args.char, c.args.form) c.if-limit-n.true

pub returns : goal.returns
returns g c = alive_room (both g.F.LineForm.form) _ _ (c.args.char, c.args.form) c.if-limit-n.false (rw (c.is_live.ensures, c.is_live-2.ensures)) (rw (c.need.ensures.0, c.need-2.ensures.0))
