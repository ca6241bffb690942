use Rattle.line_stop.specs.CharScan.{between}
use Rattle.line_stop.specs.Product.{both}
use Rattle.line_stop.proofs.PlaceLaws.{Scanned}
use Rattle.line_stop.proofs.stop.Given as goal

abbrev pub invariant-loop-i : goal.invariant-loop-i
invariant-loop-i g l = Scanned (both g.F.LineForm.form) l.limit (between, l.fn.start) l.s l.at l.i (l.char, l.form)
