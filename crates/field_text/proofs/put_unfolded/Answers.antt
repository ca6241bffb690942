use Rattle.field_text.specs.TextLaws.{unfolding_start, unfolding_next, unfolding_end}
use native.Mathlib.Omega.{arith}
use Rattle.field_text.proofs.put_unfolded.Goals as goal

pub loop-i-init : goal.loop-i-init
loop-i-init c = unfolding_start _ _

pub loop-i-preserved : goal.loop-i-preserved
loop-i-preserved c = unfolding_next c.loop-i.invariant c.next_fold-e.ensures (omega arith) c.add_slice-at.ensures

pub returns : goal.returns
returns c = unfolding_end c.loop-i.invariant c.loop-i-test.false
