use Rattle.word_spelling.specs.FirstChars.{cost_in}
use borrow.Author.Tests.{ne_eqb}
use mathlib.Core.Path.{refl}
use lib.Dec.{lit≤}
use Rattle.word_spelling.proofs.byte_cost.Goals as goal

pub returns-then-first_char-eq61 : goal.returns-then-first_char-eq61
unfolding cost_in
returns-then-first_char-eq61 c = (rw (← c.first_char.ensures, c.if-first_char-eq61.true) refl, lit≤ tt)

pub returns-else-first_char-eq61 : goal.returns-else-first_char-eq61
unfolding cost_in
returns-else-first_char-eq61 c = (rw (← c.first_char.ensures, ne_eqb _ 61 c.if-first_char-eq61.false) refl, lit≤ tt)
