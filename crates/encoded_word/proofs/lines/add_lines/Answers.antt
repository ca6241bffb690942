use Rattle.encoded_word.specs.WritingLaws.{line_length, line_some, copied_on}
use Rattle.row.proofs.WordEndLaws.{row_end}
use Rattle.buffer.specs.BufferLaws.{length_appended, capped_none, capped_start, capped_end}
use native.Mathlib.Omega.{arith}
use lib.ListN.{length-take}
use mathlib.Core.Path.{refl, ◌∙◌}
use Rattle.encoded_word.proofs.lines.add_lines.Goals as goal

pub returns-then-text-begin : goal.returns-then-text-begin
returns-then-text-begin c = rw (row_end c.args.text.now c.args.begin c.if-text-begin.true) (capped_none _ _ (omega arith))

pub loop-i-init : goal.loop-i-init
loop-i-init c = (c.requires, refl, capped_start _ _ _ (omega arith))

pub slice_bounds-piece-end : goal.slice_bounds-piece-end
slice_bounds-piece-end c = omega (arith, line_length c.put_line-w.ensures, length_appended c.put_line-w.ensures.wrote, c.loop-i.invariant.1)

pub slice_bounds-add_slice-end : goal.slice_bounds-add_slice-end
slice_bounds-add_slice-end c = rw length-take (omega (arith, line_length c.put_line-w.ensures, length_appended c.put_line-w.ensures.wrote, c.loop-i.invariant.1))

pub loop-i-smaller : goal.loop-i-smaller
loop-i-smaller c = omega (arith, line_some c.args.text.now c.loop-i.i c.loop-i-test.true c.put_line-w.ensures)

pub loop-i-preserved : goal.loop-i-preserved
loop-i-preserved c = (
  (line_some c.args.text.now c.loop-i.i c.loop-i-test.true c.put_line-w.ensures).1,
  length_appended c.put_line-w.ensures.wrote ∙ c.loop-i.invariant.1,
  copied_on c.args.text.now c.loop-i.i c.loop-i.invariant.2 c.loop-i-test.true c.put_line-w.ensures (omega (arith, line_length c.put_line-w.ensures, c.loop-i.invariant.1)) c.add_slice-at.ensures (omega arith),
)

pub returns : goal.returns
returns c = capped_end c.loop-i.invariant.2 (row_end c.args.text.now c.loop-i.i c.loop-i-test.false)
