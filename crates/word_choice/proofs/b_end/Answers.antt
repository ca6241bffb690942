use Rattle.word_choice.specs.ChoiceLaws.{full_end, full_stop, span_on, char_more}
use native.Mathlib.Omega.{arith}
use Rattle.word_choice.proofs.b_end.Goals as goal

pub returns-then-limit-next : goal.returns-then-limit-next
returns-then-limit-next c = full_stop c.loop-e.invariant.0 _ c.loop-e-test.true c.char_end-next.ensures _ c.loop-e.invariant.1 c.if-limit-next.true

pub loop-e-smaller : goal.loop-e-smaller
loop-e-smaller c = omega (arith, char_more c.loop-e.invariant.0 _ c.loop-e-test.true c.char_end-next.ensures, c.char_end-next.ensures)

pub loop-e-preserved : goal.loop-e-preserved
loop-e-preserved c = (span_on c.loop-e.invariant.0 _ c.loop-e-test.true c.char_end-next.ensures, c.if-limit-next.false)

pub returns : goal.returns
returns c = full_end c.loop-e.invariant.0 _ c.loop-e.invariant.1 c.loop-e-test.false
