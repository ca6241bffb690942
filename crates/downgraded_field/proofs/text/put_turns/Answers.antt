use native.Mathlib.Omega.{arith}
use Rattle.downgraded_field.specs.ShownLaws.{showing_start, showing_next, showing_end, length_showing}
use Rattle.downgraded_field.proofs.text.put_turns.Goals as goal

pub loop-turn-init : goal.loop-turn-init
loop-turn-init c = showing_start _ _

pub loop-turn-preserved : goal.loop-turn-preserved
loop-turn-preserved c = showing_next c.loop-turn.invariant c.in-Some.ensures c.is_word-after.ensures (omega arith) c.add_turn-at.ensures

pub returns : goal.returns
returns c = showing_end c.loop-turn.invariant c.in_default.ensures (omega arith)
