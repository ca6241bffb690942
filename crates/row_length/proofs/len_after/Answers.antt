use Rattle.row_length.specs.LengthLaws.{measured_on, measured_more, measured_within, measured_all}
use Rattle.word_choice.specs.EndInQLaws.{word_at_small}
use Rattle.row.proofs.RowLaws.{bounded_short, row_after_long}
use native.Mathlib.Omega.{arith}
use lib.ListN.{length}
use mathlib.Core.Path.{sym, ap}
use Rattle.row_length.proofs.len_after.Goals as goal

pub returns-then-text-gt-LIMIT : goal.returns-then-text-gt-LIMIT
returns-then-text-gt-LIMIT c = sym (ap length (row_after_long _ _ c.if-text-gt-LIMIT.true))

pub overflow_add-n : goal.overflow_add-n
overflow_add-n c = omega (arith, word_at_small c.word_at-w.ensures)

pub overflow_add-n-in-loop-i : goal.overflow_add-n-in-loop-i
overflow_add-n-in-loop-i c = omega (arith, word_at_small c.word_at-w.ensures, c.loop-i.invariant.1)

pub loop-i-smaller : goal.loop-i-smaller
loop-i-smaller c = omega (arith, measured_within c.args.text.now c.loop-i.i c.loop-i-test.true c.word_at-w.ensures, measured_more c.args.text.now c.loop-i.i c.loop-i-test.true c.word_at-w.ensures)

pub loop-i-preserved : goal.loop-i-preserved
loop-i-preserved c = let h = c.loop-i-test.true in (
  measured_within c.args.text.now c.loop-i.i h c.word_at-w.ensures,
  omega (arith, c.loop-i.invariant.1, word_at_small c.word_at-w.ensures, measured_more c.args.text.now c.loop-i.i h c.word_at-w.ensures),
  measured_on c.args.text.now c.loop-i.i h c.word_at-w.ensures _ _ c.loop-i.invariant.2,
)

pub returns : goal.returns
returns c = rw (bounded_short _ c.if-text-gt-LIMIT.false) (measured_all c.args.text.now c.loop-i.i _ _ c.loop-i-test.false c.loop-i.invariant.2)
