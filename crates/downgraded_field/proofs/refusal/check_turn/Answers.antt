use mathlib.Core.Path.{sym, ap, ◌∙◌}
use native.Mathlib.Omega.{arith}
use Rattle.word_reader.specs.WordLaws.{added_short}
use Rattle.downgraded_field.specs.ShownLaws.{breaks_short, turn_plain, read_first, read_next, turn_err}
use Rattle.downgraded_field.proofs.refusal.check_turn.Goals as goal

pub overflow_add-result : goal.overflow_add-result
overflow_add-result c = omega (arith, c.gap_length.ensures, breaks_short c.args.turn.gap.now)

pub returns-then-not-is_word : goal.returns-then-not-is_word
returns-then-not-is_word c = turn_plain _ _ _ (sym c.is_word.ensures ∙ c.if-not-is_word.true) c.gap_length.ensures

pub returns-in_err-length : goal.returns-in_err-length
returns-in_err-length c = turn_err _ _ _ _ _ (sym c.is_word.ensures ∙ c.if-not-is_word.false) c.in_err-length.ensures c.from_residual.ensures.1

pub returns-then-after : goal.returns-then-after
returns-then-after c = read_next _ _ _ (sym c.is_word.ensures ∙ c.if-not-is_word.false) c.if-after.true c.in_ok-length.ensures

pub overflow_add-result-2 : goal.overflow_add-result-2
overflow_add-result-2 c = omega (arith, c.gap_length-2.ensures, c.in_ok-length.ensures, breaks_short c.args.turn.gap.now, added_short c.args.turn.run.now)

pub returns : goal.returns
returns c = read_first _ _ _ (sym c.is_word.ensures ∙ c.if-not-is_word.false) c.if-after.false c.in_ok-length.ensures c.gap_length-2.ensures
