use Rattle.std.proofs.Common.{sym, ◌∙◌, arith}
use Rattle.lists.specs.RunLaws.{run_step, run_stop, run_end}
use Rattle.byte_class.proofs.run_end.Goals as goal

pub returns-then-s-at : goal.returns-then-s-at
returns-then-s-at g c = sym (run_end g.C.Class.member _ _ c.if-s-at.true)

pub returns-then-not-holds : goal.returns-then-not-holds
returns-then-not-holds g c = sym (c.loop-i.invariant ∙ run_stop g.C.Class.member _ _ c.loop-i-test.true (sym c.holds.ensures ∙ c.if-not-holds.true))

pub loop-i-preserved : goal.loop-i-preserved
loop-i-preserved g c = c.loop-i.invariant ∙ run_step g.C.Class.member _ _ c.loop-i-test.true (sym c.holds.ensures ∙ c.if-not-holds.false)

pub returns : goal.returns
returns g c = let e = c.loop-i.invariant ∙ run_end g.C.Class.member _ _ c.loop-i-test.false in omega arith
