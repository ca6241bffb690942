use Rattle.parameter_names.specs.NamesLaws.{marked_ahead, marked_inside}
use Rattle.parameter_names.specs.KeysLaws.{Gathered, gathered_start, gathered_more, gathered_all}
use borrow.Author.Rules.{rules}
use native.Mathlib.Omega.{arith}
use lib.ListN.{length}
use Prim.Native.Nat.{◌-◌}
use Rattle.parameter_names.proofs.keys.fill_keys.Goals as goal

pub loop-i-init : goal.loop-i-init
loop-i-init c = gathered_start _ c.requires

pub slice_bounds-key_of-count : goal.slice_bounds-key_of-count
slice_bounds-key_of-count c = omega (arith, marked_ahead c.args.s.now c.loop-i.i c.marked_end-end.result c.loop-i-test.true c.marked_end-end.ensures)

pub slice_bounds-key_of-start : goal.slice_bounds-key_of-start
slice_bounds-key_of-start c = omega (arith, marked_ahead c.args.s.now c.loop-i.i c.marked_end-end.result c.loop-i-test.true c.marked_end-end.ensures)

pub slice_bounds-key_of-end : goal.slice_bounds-key_of-end
slice_bounds-key_of-end c = marked_inside _ _ _ c.loop-i-test.true c.marked_end-end.ensures

pub loop-i-smaller : goal.loop-i-smaller
loop-i-smaller c = omega (arith, marked_ahead c.args.s.now c.loop-i.i c.marked_end-end.result c.loop-i-test.true c.marked_end-end.ensures, c.loop-i-test.true)

pub loop-i-preserved : goal.loop-i-preserved
loop-i-preserved c = gathered_more _ _ _ c.loop-i-test.true c.marked_end-end.ensures c.if-n-eq8192.false c.key_of.ensures c.loop-i.invariant

pub returns : goal.returns
returns c = (omega (arith, c.loop-i.invariant.size, c.loop-i.invariant.most), gathered_all _ _ c.loop-i-test.false c.loop-i.invariant)
