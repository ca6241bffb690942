use Rattle.std.proofs.Common.{sym, ◌∙◌, arith}
use Rattle.line_stop.proofs.ProductLaws.{both_same}
use Rattle.line_stop.proofs.PlaceLaws.{scan_past, scan_none, scan_end_lem, scan_cr_bad, scan_cr, scan_bad, scan_next}
use Rattle.line_stop.proofs.stop.Goals as goal

pub returns-then-s-at : goal.returns-then-s-at
returns-then-s-at g c = scan_past _ _ _ _ _ c.if-s-at.true

pub loop-i-init : goal.loop-i-init
loop-i-init g c = rw c.between-char.ensures scan_none

pub returns-then-not-is_done : goal.returns-then-not-is_done
returns-then-not-is_done g c =
    scan_cr_bad c.loop-i.invariant c.loop-i-test.true c.if-b-eq13.true (rw (← c.is_done.ensures, ← c.is_done-then-b-eq13.ensures) c.if-not-is_done.true)

pub returns-then-b-eq13 : goal.returns-then-b-eq13
returns-then-b-eq13 g c =
    scan_cr c.loop-i.invariant c.loop-i-test.true c.if-b-eq13.true (rw (← c.is_done.ensures, ← c.is_done-then-b-eq13.ensures) c.if-not-is_done.false) c.after_lf.ensures

pub returns-then-not-is_alive : goal.returns-then-not-is_alive
returns-then-not-is_alive g c = scan_bad c.loop-i.invariant c.loop-i-test.true c.if-b-eq13.false (both_same c.step-char.ensures c.step-form.ensures) (sym c.is_alive.ensures ∙ c.if-not-is_alive.true)

pub loop-i-preserved : goal.loop-i-preserved
loop-i-preserved g c = scan_next c.loop-i.invariant c.loop-i-test.true c.if-b-eq13.false (both_same c.step-char.ensures c.step-form.ensures) (sym c.is_alive.ensures ∙ c.if-not-is_alive.false)

pub returns : goal.returns
returns g c = let e = scan_end_lem c.loop-i.invariant c.loop-i-test.false in omega arith
