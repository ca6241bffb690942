use Rattle.row_length.specs.LengthLaws.{begins_none, begins_empty, begins_word}
use Rattle.word_choice.specs.EndInQLaws.{word_at_small}
use native.Mathlib.Omega.{arith}
use Rattle.row_length.proofs.first_line.Goals as goal

pub returns-then-column-ge63 : goal.returns-then-column-ge63
returns-then-column-ge63 c = begins_none _ _ c.if-column-ge63.true

pub returns-then-w-eq0 : goal.returns-then-w-eq0
returns-then-w-eq0 c = begins_empty _ c.word_at-w.ensures c.if-w-eq0.true

pub overflow_add-result : goal.overflow_add-result
overflow_add-result c = omega (arith, word_at_small c.word_at-w.ensures)

pub returns : goal.returns
returns c = begins_word _ c.word_at-w.ensures (omega (arith, c.if-w-eq0.false))
