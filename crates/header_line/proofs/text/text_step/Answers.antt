use Rattle.std.proofs.Common.{drop, sym, ◌∙◌, arith, length-drop}
use Rattle.utf8.specs.Utf8AtLaws.{char_at_within}
use Rattle.header_line.specs.LineLaws.{stopped_end, stopped_byte, stopped_char, step_plain, step_one, step_char}
use Rattle.header_line.proofs.text.text_step.Goals as goal

pub returns-in_err-b : goal.returns-in_err-b
returns-in_err-b c = rw c.from_residual.ensures (stopped_end _ _ c.in_err-b.ensures.lookup.3)

pub returns-then-not-is_plain : goal.returns-then-not-is_plain
returns-then-not-is_plain c =
    let there = c.in_ok-b.ensures.lookup in
    let b = there.3.1 0 in
    stopped_byte _ _ there.3.0 (rw b at c.if-b-lt128.true) (rw b at (sym c.is_plain.ensures ∙ c.if-not-is_plain.true))

pub returns-then-byte_at-ge128 : goal.returns-then-byte_at-ge128
returns-then-byte_at-ge128 c =
    let there = c.in_ok-b.ensures.lookup in
    step_one _ _ there.3.0 (rw (there.3.1 0) at (sym c.is_plain.ensures ∙ c.if-not-is_plain.false))

pub returns-then-b-lt128 : goal.returns-then-b-lt128
returns-then-b-lt128 c =
    let there = c.in_ok-b.ensures.lookup in
    step_plain _ _ there.3.0 _ (rw (there.3.1 0) at (sym c.is_plain.ensures ∙ c.if-not-is_plain.false)) c.long_run_end.ensures

pub returns-then-n-eq0 : goal.returns-then-n-eq0
returns-then-n-eq0 c = let there = c.in_ok-b.ensures.lookup in stopped_char _ _ there.3.0 (sym c.char_at-n.ensures ∙ c.if-n-eq0.true)

pub overflow_add-result-2 : goal.overflow_add-result-2
overflow_add-result-2 c = let h = c.args.h.now in let i = c.args.i in omega (arith, char_at_within (drop i h), length-drop i h)

pub returns : goal.returns
returns c =
    let there = c.in_ok-b.ensures.lookup in
    step_char _ _ there.3.0 _ (rw (there.3.1 0) at c.if-b-lt128.false) (omega arith) c.char_at-n.ensures
