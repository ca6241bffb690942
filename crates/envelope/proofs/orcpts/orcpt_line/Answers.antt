use Rattle.envelope.proofs.OrcptLaws.{orcpt_end, orcpt_found, orcpt_next}
use Rattle.envelope.specs.Envelope.{orcpt_line}
use native.Mathlib.Omega.{arith}
use mathlib.Core.Path.{refl, sym, ◌∙◌}
use Rattle.envelope.proofs.orcpts.orcpt_line.Goals as goal

pub loop-i-init : goal.loop-i-init
unfolding orcpt_line
loop-i-init c = (omega arith, refl)

pub returns-then-orcpt_fault : goal.returns-then-orcpt_fault
returns-then-orcpt_fault c = sym (c.loop-i.invariant.1 ∙ orcpt_found _ _ _ c.loop-i-test.true _ c.line_end-end.ensures c.part.ensures c.orcpt_fault.ensures c.if-orcpt_fault.true)

pub loop-i-smaller : goal.loop-i-smaller
loop-i-smaller c = omega (arith, c.line_end-end.ensures, c.place_after-i.ensures)

pub loop-i-preserved : goal.loop-i-preserved
loop-i-preserved c = (omega (arith, c.line_end-end.ensures, c.place_after-i.ensures), c.loop-i.invariant.1 ∙ orcpt_next _ _ _ c.loop-i-test.true _ c.line_end-end.ensures c.part.ensures c.orcpt_fault.ensures _ c.if-orcpt_fault.false c.place_after-i.ensures (omega arith))

pub returns : goal.returns
returns c = sym (c.loop-i.invariant.1 ∙ orcpt_end _ _ _ c.loop-i-test.false)
