use mathlib.Core.Path.{sym, ◌∙◌}
use native.Mathlib.Omega.{arith}
use Rattle.downgraded_field.specs.ShownLaws.{turn_adjacent, turn_word, turn_other}
use Rattle.downgraded_field.proofs.text.add_turn.Goals as goal

pub returns-then-after : goal.returns-then-after
returns-then-after c = turn_adjacent _ _ _ (sym c.is_word.ensures ∙ c.if-is_word.true) c.if-after.true c.add.ensures.1

pub returns-then-is_word : goal.returns-then-is_word
returns-then-is_word c = turn_word _ _ _ (sym c.is_word.ensures ∙ c.if-is_word.true) c.if-after.false (omega arith) c.add_gap-start.ensures c.add-then-is_word.ensures.1

pub returns : goal.returns
returns c = turn_other _ _ _ (sym c.is_word.ensures ∙ c.if-is_word.false) (omega arith) c.add_gap-start-2.ensures c.add_slice.ensures
