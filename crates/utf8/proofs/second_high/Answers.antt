use Rattle.utf8.specs.Utf8.{second_high}
use borrow.Author.Tests.{eq-eqb, ne_eqb}
use Rattle.utf8.proofs.second_high.Goals as goal

pub returns-then-a-eq237 : goal.returns-then-a-eq237
unfolding second_high
returns-then-a-eq237 c = simp (eq-eqb _ _ c.if-a-eq237.true)

pub returns-then-a-eq244 : goal.returns-then-a-eq244
unfolding second_high
returns-then-a-eq244 c = simp (ne_eqb _ _ c.if-a-eq237.false, eq-eqb _ _ c.if-a-eq244.true)

pub returns : goal.returns
unfolding second_high
returns c = simp (ne_eqb _ _ c.if-a-eq237.false, ne_eqb _ _ c.if-a-eq244.false)
