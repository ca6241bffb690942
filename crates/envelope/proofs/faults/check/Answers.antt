use Rattle.std.proofs.Common.{◌≡◌, ◌∙◌, Err, true, arith, sym, rules}
use Rattle.envelope.proofs.CheckLaws.{mail_refused, mail_passed, mail_line, ended_inside, on_line_ok, on_line_err}
use Rattle.envelope.proofs.faults.check.Goals as goal

pub returns-in_err-check_line : goal.returns-in_err-check_line
returns-in_err-check_line c =
    let told = on_line_err _ _ c.check_line.ensures c.in_err-check_line.was in
    let at : c.from_residual.result ≡ Err c.in_err-check_line.field-0.0 = search rules in
    rw (at, ← told.1) (mail_refused (mail_line _ _) told.0)

pub overflow_add-end : goal.overflow_add-end
overflow_add-end c = omega (arith, c.line_end-end.ensures, ended_inside _ true c.args.envelope.now (sym (mail_line _ _) ∙ on_line_ok _ _ c.check_line.ensures c.in_ok-check_line.was))

pub returns : goal.returns
returns c = mail_passed (mail_line _ _) _ c.line_end-end.ensures (on_line_ok _ _ c.check_line.ensures c.in_ok-check_line.was) c.check_rcpts.ensures
