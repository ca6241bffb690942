use Rattle.header.specs.AsciiFieldsLaws.{ascii_fields_lem}
use Rattle.header.specs.FieldLaws.{field_after}
use Rattle.outgoing_field.proofs.MostLaws.{Looking, looking_start, looking_skip, looking_next, looking_here, looking_end, looking_small}
use lib.ListN.{length}
use Prim.Native.Nat.{◌-◌}
use native.Mathlib.Omega.{arith}
use borrow.Author.Rules.{rules}
use Rattle.outgoing_field.proofs.held.look_through.Goals as goal

pub loop-at-init : goal.loop-at-init
loop-at-init c = looking_start _ _

pub overflow_sub-most : goal.overflow_sub-most
overflow_sub-most c = omega (arith, (ascii_fields_lem c.ascii_fields_end-start.ensures).up)

pub overflow_mul-most : goal.overflow_mul-most
overflow_mul-most c = omega (arith, (ascii_fields_lem c.ascii_fields_end-start.ensures).inside (omega (arith, c.loop-at-test.true)), c.requires)

pub overflow_add-most : goal.overflow_add-most
overflow_add-most c = omega (arith, looking_small (looking_skip c.loop-at.invariant (omega (arith, c.loop-at-test.true)) (ascii_fields_lem c.ascii_fields_end-start.ensures)) c.requires)

pub returns-then-h-start : goal.returns-then-h-start
returns-then-h-start c = looking_end (looking_skip c.loop-at.invariant (omega (arith, c.loop-at-test.true)) (ascii_fields_lem c.ascii_fields_end-start.ensures)) c.if-h-start.true

pub slice_bounds-look-count : goal.slice_bounds-look-count
slice_bounds-look-count c = let a = field_after _ _ _ c.if-h-start.false c.field_end-to.ensures in omega (arith, a.0)

pub slice_bounds-look-start : goal.slice_bounds-look-start
slice_bounds-look-start c = let a = field_after _ _ _ c.if-h-start.false c.field_end-to.ensures in omega (arith, a.0)

pub slice_bounds-look-end : goal.slice_bounds-look-end
slice_bounds-look-end c = let a = field_after _ _ _ c.if-h-start.false c.field_end-to.ensures in omega (arith, a.1)

pub look-requires : goal.look-requires
look-requires c = let a = field_after _ _ _ c.if-h-start.false c.field_end-to.ensures in omega (arith, a.1, c.requires)

pub returns-in-None : goal.returns-in-None
returns-in-None c = looking_here (looking_skip c.loop-at.invariant (omega (arith, c.loop-at-test.true)) (ascii_fields_lem c.ascii_fields_end-start.ensures)) c.if-h-start.false c.field_end-to.ensures c.in-None.ensures c.line_count.ensures

pub overflow_add-most-in-Some : goal.overflow_add-most-in-Some
overflow_add-most-in-Some c = omega (arith, looking_small (looking_next (looking_skip c.loop-at.invariant (omega (arith, c.loop-at-test.true)) (ascii_fields_lem c.ascii_fields_end-start.ensures)) c.if-h-start.false c.field_end-to.ensures c.in-Some.ensures) c.requires)

pub loop-at-smaller : goal.loop-at-smaller
loop-at-smaller c = let a = field_after _ _ _ c.if-h-start.false c.field_end-to.ensures in omega (arith, a.0, a.1, (ascii_fields_lem c.ascii_fields_end-start.ensures).up, c.loop-at-test.true)

pub loop-at-preserved : goal.loop-at-preserved
loop-at-preserved c = looking_next (looking_skip c.loop-at.invariant (omega (arith, c.loop-at-test.true)) (ascii_fields_lem c.ascii_fields_end-start.ensures)) c.if-h-start.false c.field_end-to.ensures c.in-Some.ensures

pub returns : goal.returns
returns c = looking_end c.loop-at.invariant c.loop-at-test.false
