use Rattle.batch.specs.BatchLaws.{Going, going_start, going_next, going_end, room_left}
use lib.ListN.{length, length-take, length-drop}
use native.Mathlib.Omega.{arith}
use Rattle.std.proofs.Common.{◌≡◌, ◌*◌, ◌+◌}
use Rattle.batch.proofs.downgrade.Goals as goal

pub loop-k-init : goal.loop-k-init
loop-k-init c = going_start _ _ _ _ _

pub downgrade_record-answer-requires : goal.downgrade_record-answer-requires
downgrade_record-answer-requires c = simp (length-take, length-drop) (omega arith)

pub overflow_add-envelope_at : goal.overflow_add-envelope_at
overflow_add-envelope_at c = omega (arith, (room_left c.loop-k.invariant c.downgrade_record-answer.ensures).0)

pub overflow_add-header_at : goal.overflow_add-header_at
overflow_add-header_at c = omega (arith, (room_left c.loop-k.invariant c.downgrade_record-answer.ensures).1)

pub loop-k-preserved : goal.loop-k-preserved
loop-k-preserved c =
    let e : 9 * (c.loop-k.k + 1) ≡ 9 * c.loop-k.k + 9 = omega arith in
    rw e (going_next c.loop-k.invariant c.downgrade_record-answer.ensures)

pub shape_of-records : goal.shape_of-records
shape_of-records c = c.loop-k.invariant.records_size

pub shape_of-envelope_buffer : goal.shape_of-envelope_buffer
shape_of-envelope_buffer c = c.loop-k.invariant.b_size

pub shape_of-header_buffer : goal.shape_of-header_buffer
shape_of-header_buffer c = c.loop-k.invariant.c_size

pub returns : goal.returns
returns c = going_end c.loop-k.invariant (omega arith)
