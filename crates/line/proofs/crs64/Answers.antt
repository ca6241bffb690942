use Rattle.line.specs.CrLaws.{counted_none, counted_by, counted_all, one_small, one_of}
use native.Mathlib.Omega.{arith}
use Rattle.std.proofs.Common.{◌∙◌, refl}
use lib.Dec.{eqb}
use lib.ListN.{get_or}
use Prim.Native.Nat.{◌+◌}
use Rattle.line.proofs.crs64.Goals as goal

pub loop-j-init : goal.loop-j-init
loop-j-init c = counted_none

pub overflow_add-n : goal.overflow_add-n
overflow_add-n c =
    let t = eqb (get_or c.args.s.now (c.args.at + c.from.result) 0) 13 in
    omega (arith, c.loop-j.invariant.few, one_small t c.from-n.result (c.from-n.ensures ∙ one_of t))

pub loop-j-preserved : goal.loop-j-preserved
loop-j-preserved c =
    let t = eqb (get_or c.args.s.now (c.args.at + c.from.result) 0) 13 in
    counted_by c.loop-j.invariant c.loop-j-test.true _ _ _ _ c.from.ensures (c.from-n.ensures ∙ one_of t) c.if_cr-p.ensures refl

pub returns : goal.returns
returns c = counted_all c.loop-j.invariant (omega arith)
