use Rattle.std.proofs.Common.{sym, ◌∙◌, arith, eq-eqb, ne_eqb}
use Rattle.lists.specs.RunLaws.{run_step, run_stop, run_end}
use Rattle.case_line.specs.CaseLine.{other}
use Rattle.case_line.proofs.find.Goals as goal

pub returns-then-s-at : goal.returns-then-s-at
returns-then-s-at c = sym (run_end (other c.args.mark) _ _ c.if-s-at.true)

pub returns-then-s-i : goal.returns-then-s-i
returns-then-s-i c = sym (c.loop-i.invariant ∙ run_stop (other _) _ _ c.loop-i-test.true (rw (eq-eqb _ _ c.if-s-i.true)))

pub loop-i-preserved : goal.loop-i-preserved
loop-i-preserved c = c.loop-i.invariant ∙ run_step (other _) _ _ c.loop-i-test.true (rw (ne_eqb _ _ c.if-s-i.false))

pub returns : goal.returns
returns c = let e = c.loop-i.invariant ∙ run_end (other c.args.mark) _ _ c.loop-i-test.false in omega arith
