use Rattle.header.specs.AsciiFieldsLaws.{ascii_fields_lem}
use borrow.Author.Rules.{rules}
use Rattle.outgoing_field.proofs.FateLaws.{Fielding, fielding_start, fielding_skip, fielding_next, fielding_end, length_fielding}
use Rattle.header.specs.FieldLaws.{field_after}
use Prim.Native.Nat.{◌-◌}
use native.Mathlib.Omega.{arith}
use lib.ListN.{length}
use Rattle.outgoing_field.proofs.writer.add_all.Goals as goal

pub loop-i-init : goal.loop-i-init
loop-i-init c = fielding_start _ _ _ _ (omega arith)

pub slice_bounds-add_slice-count : goal.slice_bounds-add_slice-count
slice_bounds-add_slice-count c = omega (arith, (ascii_fields_lem c.ascii_fields_end-start.ensures).up)

pub slice_bounds-add_slice-start : goal.slice_bounds-add_slice-start
slice_bounds-add_slice-start c = omega (arith, (ascii_fields_lem c.ascii_fields_end-start.ensures).up)

pub slice_bounds-add_slice-end : goal.slice_bounds-add_slice-end
slice_bounds-add_slice-end c = let k = (ascii_fields_lem c.ascii_fields_end-start.ensures).inside (omega (arith, c.loop-i-test.true)) in omega (arith, k)

pub shape_of-out-then-h-start : goal.shape_of-out-then-h-start
shape_of-out-then-h-start c = length_fielding (fielding_skip c.loop-i.invariant (omega arith) (ascii_fields_lem c.ascii_fields_end-start.ensures) c.add_slice-next.ensures)

pub returns-then-h-start : goal.returns-then-h-start
returns-then-h-start c = fielding_end (fielding_skip c.loop-i.invariant (omega arith) (ascii_fields_lem c.ascii_fields_end-start.ensures) c.add_slice-next.ensures) c.if-h-start.true

pub slice_bounds-add_limited-count : goal.slice_bounds-add_limited-count
slice_bounds-add_limited-count c = let a = field_after _ _ _ c.if-h-start.false c.field_end-to.ensures in omega (arith, a.0)

pub slice_bounds-add_limited-start : goal.slice_bounds-add_limited-start
slice_bounds-add_limited-start c = let a = field_after _ _ _ c.if-h-start.false c.field_end-to.ensures in omega (arith, a.0)

pub slice_bounds-add_limited-end : goal.slice_bounds-add_limited-end
slice_bounds-add_limited-end c = let a = field_after _ _ _ c.if-h-start.false c.field_end-to.ensures in omega (arith, a.1)

pub add_limited-next-requires : goal.add_limited-next-requires
add_limited-next-requires c = let a = field_after _ _ _ c.if-h-start.false c.field_end-to.ensures in omega (arith, a.1, c.requires)

pub loop-i-smaller : goal.loop-i-smaller
loop-i-smaller c = let a = field_after _ _ _ c.if-h-start.false c.field_end-to.ensures in omega (arith, a.0, a.1, (ascii_fields_lem c.ascii_fields_end-start.ensures).up, c.loop-i-test.true)

pub loop-i-preserved : goal.loop-i-preserved
loop-i-preserved c = fielding_next (fielding_skip c.loop-i.invariant (omega arith) (ascii_fields_lem c.ascii_fields_end-start.ensures) c.add_slice-next.ensures) (omega arith) c.if-h-start.false c.field_end-to.ensures c.add_limited-next.ensures

pub shape_of-out : goal.shape_of-out
shape_of-out c = length_fielding c.loop-i.invariant

pub returns : goal.returns
returns c = fielding_end c.loop-i.invariant c.loop-i-test.false
