use Rattle.std.proofs.Common.{◌≡◌, ◌+◌, Err, refl, arith, drop, rules}
use Rattle.envelope.proofs.CheckLaws.{rcpts_start, rcpts_more, rcpts_refused, rcpts_passed, fine_few, fine_end, on_line_ok, on_line_err}
use Rattle.envelope.proofs.faults.check_rcpts.Goals as goal

pub loop-i-init : goal.loop-i-init
loop-i-init c = rcpts_start _ _ _ _

pub check_line-requires : goal.check_line-requires
check_line-requires c = c.line_end-end.ensures

pub overflow_add-n-in-loop-i : goal.overflow_add-n-in-loop-i
overflow_add-n-in-loop-i c = omega (arith, c.loop-i.invariant.few)

pub returns-in_err-check_line : goal.returns-in_err-check_line
returns-in_err-check_line c =
    let told = on_line_err _ _ c.check_line.ensures c.in_err-check_line.was in
    let at : c.from_residual.result ≡ Err c.in_err-check_line.field-0.0 = search rules in
    rw (at, ← told.1) (rcpts_refused c.loop-i.invariant _ c.loop-i-test.true c.line_end-end.ensures refl told.0)

pub offset_bounds-starts-n : goal.offset_bounds-starts-n
offset_bounds-starts-n c = omega (arith, c.loop-i.invariant.few)

pub bounds-starts-n : goal.bounds-starts-n
bounds-starts-n c = omega (arith, fine_few _ (c.loop-i.n + 1) (drop c.loop-i.i c.args.envelope.now) (on_line_ok _ _ c.check_line.ensures c.in_ok-check_line.was))

pub overflow_add-n : goal.overflow_add-n
overflow_add-n c = omega (arith, c.loop-i.invariant.few)

pub overflow_add-i : goal.overflow_add-i
overflow_add-i c = omega (arith, fine_end _ c.args.envelope.now c.loop-i.i c.line_end-end.result (c.loop-i.n + 1) c.line_end-end.ensures (on_line_ok _ _ c.check_line.ensures c.in_ok-check_line.was))

pub loop-i-smaller : goal.loop-i-smaller
loop-i-smaller c = omega (arith, c.line_end-end.ensures)

pub loop-i-preserved : goal.loop-i-preserved
loop-i-preserved c = rcpts_more c.loop-i.invariant _ c.loop-i-test.true c.line_end-end.ensures refl (on_line_ok _ _ c.check_line.ensures c.in_ok-check_line.was)

pub returns : goal.returns
returns c = rcpts_passed c.loop-i.invariant c.loop-i-test.false c.counted.ensures
