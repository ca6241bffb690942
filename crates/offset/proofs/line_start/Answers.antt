use Rattle.std.proofs.Common.{◌≡◌, ◌-◌, ◌+◌, ap, sym, ◌∙◌, arith, length}
use Rattle.offset.specs.OffsetLaws.{front_within, start_next, start_none}
use Rattle.offset.proofs.line_start.Goals as goal

pub overflow_add-i : goal.overflow_add-i
overflow_add-i c = omega (arith, front_within c.args.s.now c.loop.i c.loop.invariant.0, ap length c.front_line.ensures)

pub loop-preserved : goal.loop-preserved
loop-preserved c =
    let left : c.args.n - c.loop.counter - 1 ≡ c.args.n - (c.loop.counter + 1) = omega arith in
    rw (c.front_line.ensures, ← left) (front_within _ _ c.loop.invariant.0, c.loop.invariant.1 ∙ start_next _ _ _ (omega (arith, c.loop-test.true)))

pub returns : goal.returns
returns c = sym (c.loop.invariant.1 ∙ start_none _ _ _ (omega (arith, c.loop-test.false)))
