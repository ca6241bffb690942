use Rattle.structured_field.specs.WritingLaws.{part_served, comment_next, comment_none}
use Rattle.structured_field.specs.StructuredField.{part_segments}
use Rattle.comment.proofs.PartsLaws.{part_beyond, part_end_within}
use Rattle.comment.specs.Parts.{parts}
use Rattle.encoded_word.specs.Segments.{rendered}
use Rattle.buffer.specs.BufferLaws.{capped_start, capped_turn, capped_end, length_capped}
use Rattle.buffer.specs.Buffer.{ReachedCapped}
use Rattle.lists.specs.Lists.{joined}
use borrow.Author.Rules.{rules}
use native.Mathlib.Omega.{arith}
use lib.ListN.{length, drop}
use mathlib.Core.Path.{◌≡◌, refl}
use mathlib.Core.List.{map}
use Prim.Native.Nat.{◌-◌}
use Rattle.structured_field.proofs.writer.add_parts.Goals as goal

pub loop-i-init : goal.loop-i-init
loop-i-init c = (capped_start _ _ _ (omega arith), refl)

pub slice_bounds-add_part-count : goal.slice_bounds-add_part-count
slice_bounds-add_part-count c = omega (arith, part_beyond _ _ c.loop-i-test.true _ c.part_end-e.ensures)

pub slice_bounds-add_part-start : goal.slice_bounds-add_part-start
slice_bounds-add_part-start c = omega (arith, part_beyond _ _ c.loop-i-test.true _ c.part_end-e.ensures)

pub slice_bounds-add_part-end : goal.slice_bounds-add_part-end
slice_bounds-add_part-end c = part_end_within _ _ c.loop-i-test.true _ c.part_end-e.ensures

pub add_part-next-requires : goal.add_part-next-requires
add_part-next-requires c = part_served c.args.comment.now c.loop-i.i c.part_end-e.result _ c.requires.0 (omega (arith, c.requires.1, c.loop-i.invariant.1))

pub loop-i-smaller : goal.loop-i-smaller
loop-i-smaller c = omega (arith, part_beyond _ _ c.loop-i-test.true _ c.part_end-e.ensures)

pub loop-i-preserved : goal.loop-i-preserved
loop-i-preserved c = (capped_turn c.loop-i.invariant.0 (comment_next _ _ _ c.loop-i-test.true c.part_end-e.ensures) c.add_part-next.ensures (omega arith), omega arith)

pub shape_of-out : goal.shape_of-out
shape_of-out c = length_capped c.loop-i.invariant.0

pub shape_of-scratch : goal.shape_of-scratch
shape_of-scratch c = c.loop-i.invariant.1

pub returns : goal.returns
returns c = capped_end c.loop-i.invariant.0 (comment_none _ _ c.loop-i-test.false)
