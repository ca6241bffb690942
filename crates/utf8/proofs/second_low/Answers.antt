use Rattle.utf8.specs.Utf8.{second_low}
use borrow.Author.Tests.{eq-eqb, ne_eqb}
use Rattle.utf8.proofs.second_low.Goals as goal

pub returns-then-a-eq224 : goal.returns-then-a-eq224
unfolding second_low
returns-then-a-eq224 c = simp (eq-eqb _ _ c.if-a-eq224.true)

pub returns-then-a-eq240 : goal.returns-then-a-eq240
unfolding second_low
returns-then-a-eq240 c = simp (ne_eqb _ _ c.if-a-eq224.false, eq-eqb _ _ c.if-a-eq240.true)

pub returns : goal.returns
unfolding second_low
returns c = simp (ne_eqb _ _ c.if-a-eq224.false, ne_eqb _ _ c.if-a-eq240.false)
