use Rattle.parameter_names.specs.Names.{marked}
use Rattle.parameterized_field.specs.NamesLaws.{marked_step, marked_none, marked_grows}
use Rattle.parameterized_field.specs.Value.{start, names_from}
use Rattle.buffer.specs.BufferLaws.{capped_start, capped_turn, capped_end, length_capped}
use Rattle.buffer.specs.Buffer.{ReachedCapped}
use borrow.Author.Rules.{rules}
use native.Mathlib.Omega.{arith}
use lib.ListN.{length, drop}
use Prim.Native.Nat.{◌-◌, ◌*◌, ◌≤◌}
use Rattle.parameterized_field.proofs.names.add_names.Goals as goal

pub loop-i-init : goal.loop-i-init
loop-i-init c = (omega arith, omega arith, rw c.start-state.ensures (capped_start _ _ _ (omega arith)))

pub part_at-kind-requires : goal.part_at-kind-requires
part_at-kind-requires c = c.loop-i-test.true

pub slice_bounds-add_name-count : goal.slice_bounds-add_name-count
slice_bounds-add_name-count c = omega (arith, c.part_at-kind.ensures.some)

pub slice_bounds-add_name-start : goal.slice_bounds-add_name-start
slice_bounds-add_name-start c = omega (arith, c.part_at-kind.ensures.some)

pub slice_bounds-add_name-end : goal.slice_bounds-add_name-end
slice_bounds-add_name-end c = c.part_at-kind.ensures.within

pub loop-i-smaller : goal.loop-i-smaller
loop-i-smaller c = omega (arith, c.part_at-kind.ensures.some, c.loop-i-test.true)

pub loop-i-preserved : goal.loop-i-preserved
loop-i-preserved c = (marked_grows _ _ _ _ _ _ c.loop-i.invariant.0 c.part_at-kind.ensures.some c.add_name-next.ensures.place, c.part_at-kind.ensures.within, rw c.next_state-state.ensures (capped_turn c.loop-i.invariant.2 (marked_step c.part_at-kind.ensures) c.add_name-next.ensures (omega arith)))

pub shape_of-out : goal.shape_of-out
shape_of-out c = length_capped c.loop-i.invariant.2

pub returns : goal.returns
returns c = (capped_end c.loop-i.invariant.2 (marked_none _ _ _ c.loop-i-test.false), omega (arith, c.loop-i.invariant.0, c.loop-i.invariant.1))
