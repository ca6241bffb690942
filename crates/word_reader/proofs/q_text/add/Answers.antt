use borrow.Author.Rules.{rules}
use Rattle.word_reader.specs.WordLaws.{Units, units_start, units_next, units_end, length_units}
use Prim.Native.Nat.{◌-◌}
use native.Mathlib.Omega.{arith}
use lib.ListN.{length}
use Rattle.word_reader.proofs.q_text.add.Goals as goal

pub loop-i-init : goal.loop-i-init
loop-i-init c = units_start _ _ _ (omega arith)

pub overflow_add-i : goal.overflow_add-i
overflow_add-i c = omega (arith, c.unit_at-u.ensures.few)

pub loop-i-smaller : goal.loop-i-smaller
loop-i-smaller c = omega (arith, c.unit_at-u.ensures.some)

pub loop-i-preserved : goal.loop-i-preserved
loop-i-preserved c = units_next c.loop-i.invariant (omega arith) (omega arith) c.unit_at-u.ensures c.add_byte-next.ensures

pub shape_of-out : goal.shape_of-out
shape_of-out c = length_units c.loop-i.invariant

pub returns : goal.returns
returns c = units_end c.loop-i.invariant c.loop-i-test.false
