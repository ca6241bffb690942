use Rattle.encoded_word.specs.WritingLaws.{ran_start, ran_on, line_some, looping}
use native.Mathlib.Omega.{arith}
use lib.ListN.{length}
use Prim.Native.Nat.{◌-◌}
use Rattle.encoded_word.proofs.lines.put_lines.Goals as goal

pub loop-i-init : goal.loop-i-init
loop-i-init c = ran_start _ _ _ _ c.requires

pub loop-i-smaller : goal.loop-i-smaller
loop-i-smaller c = let p = looping c.loop-i.i (length c.args.text.now) c.loop-i.at (length c.args.out.now - 78) c.loop-i-test.true in
    omega (arith, line_some c.args.text.now c.loop-i.i p.0 c.put_line-w.ensures)

pub loop-i-preserved : goal.loop-i-preserved
loop-i-preserved c = let p = looping c.loop-i.i (length c.args.text.now) c.loop-i.at (length c.args.out.now - 78) c.loop-i-test.true in
    ran_on c.loop-i.invariant p.0 c.put_line-w.ensures

pub returns-else-out-ge78 : goal.returns-else-out-ge78
returns-else-out-ge78 c = ran_start _ _ _ _ c.requires
