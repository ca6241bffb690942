use lib.ListN.{length}
use Prim.Native.Nat.{◌-◌}
use native.Mathlib.Omega.{arith}
use Rattle.downgraded_field.specs.ShownLaws.{Gap, gap_start, gap_next, gap_end, length_gap}
use borrow.Author.Rules.{rules}
use Rattle.downgraded_field.proofs.text.add_gap.Goals as goal

pub loop-b-init : goal.loop-b-init
loop-b-init c = gap_start _ _ _ (omega arith)

pub loop-b-preserved : goal.loop-b-preserved
loop-b-preserved c = gap_next c.loop-b.invariant (omega arith) (omega arith) c.add_unbroken-next.ensures

pub shape_of-out : goal.shape_of-out
shape_of-out c = length_gap c.loop-b.invariant

pub returns : goal.returns
returns c = gap_end c.loop-b.invariant (omega arith)
