use mathlib.Core.Path.{refl, sym, ap, ◌∙◌}
use native.Mathlib.Omega.{arith}
use Rattle.downgraded_field.specs.ShownLaws.{counting_start, run_short, counting_fits, counting_text, counting_fault, counting_fault_end, counting_text_end}
use Rattle.downgraded_field.proofs.refusal.check_turns.Goals as goal
use Rattle.downgraded_field.proofs.refusal.check_turns.Goals.{in-Ok, in-Err}

pub loop-turn-init : goal.loop-turn-init
loop-turn-init c = counting_start _ c.requires

pub check_turn-requires : goal.check_turn-requires
check_turn-requires c = run_short c.loop-turn.invariant c.in-Some.ensures

pub overflow_add-length : goal.overflow_add-length
overflow_add-length c = omega (arith, counting_fits c.loop-turn.invariant c.in-Some.ensures c.in-Ok.ensures.1)

pub loop-turn-preserved : goal.loop-turn-preserved
loop-turn-preserved c =
    let k = c.is_word-after.ensures in
    elim c.match-check_turn.branch [
      | in-Ok w ↦ rw (w.found-is, w.length-is) (counting_text c.loop-turn.invariant c.in-Some.ensures k w.in-Ok.ensures)
      | in-Err w ↦ rw (w.found-is, w.length-is) (counting_fault c.loop-turn.invariant c.in-Some.ensures k _ _ w.in-Err.ensures w.lower.ensures)
    ]

pub returns-in-Some-found : goal.returns-in-Some-found
returns-in-Some-found c = counting_fault_end c.loop-turn.invariant c.in_default.ensures _ c.in-Some-found.is

pub returns-in-None : goal.returns-in-None
returns-in-None c = counting_text_end c.loop-turn.invariant c.in_default.ensures c.in-None.is
