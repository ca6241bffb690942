use Rattle.std.proofs.Common.{◌≡◌, ◌-◌, ◌+◌, arith}
use Rattle.read_back.specs.CallsLaws.{going_start, going_on, going_end}
use Rattle.read_back.proofs.numbered.read_number.Goals as goal

pub loop-init : goal.loop-init
loop-init c = let e : c.args.k - 0 ≡ c.args.k = omega arith in rw e going_start

pub loop-preserved : goal.loop-preserved
loop-preserved c =
    let left : c.args.k - c.loop.counter - 1 ≡ c.args.k - (c.loop.counter + 1) = omega arith in
    rw (← left) (going_on c.loop.invariant c.hennelaku_read_downgraded_slices-r.ensures (omega (arith, c.loop-test.true)))

pub returns : goal.returns
returns c = going_end c.loop.invariant c.hennelaku_read_downgraded_slices.ensures (omega (arith, c.loop-test.false))
