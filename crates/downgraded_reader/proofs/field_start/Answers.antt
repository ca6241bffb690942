use mathlib.Core.Path.{sym, ◌∙◌}
use lib.ListN.{length}
use Prim.Native.Nat.{◌-◌}
use native.Mathlib.Omega.{arith}
use Rattle.downgraded_reader.specs.ReaderLaws.{end_inside, Searching, searching_start, searching_found, searching_next, searching_end}
use borrow.Author.Rules.{rules}
use Rattle.downgraded_reader.proofs.field_start.Goals as goal

pub loop-at-init : goal.loop-at-init
loop-at-init c = searching_start c.first_line-at.ensures

pub returns-then-is_downgraded : goal.returns-then-is_downgraded
returns-then-is_downgraded c = searching_found c.loop-at.invariant c.loop-at-test.true (sym c.is_downgraded.ensures ∙ c.if-is_downgraded.true)

pub overflow_add-at : goal.overflow_add-at
overflow_add-at c = omega (arith, end_inside c.args.h.now c.loop-at.at (omega arith) c.line_end-at.ensures)

pub loop-at-smaller : goal.loop-at-smaller
loop-at-smaller c = omega (arith, c.line_end-at.ensures)

pub loop-at-preserved : goal.loop-at-preserved
loop-at-preserved c = searching_next c.loop-at.invariant c.loop-at-test.true (sym c.is_downgraded.ensures ∙ c.if-is_downgraded.false) c.line_end-at.ensures

pub returns : goal.returns
returns c = searching_end c.loop-at.invariant c.loop-at-test.false
