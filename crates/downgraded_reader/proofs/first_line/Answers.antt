use Prim.Native.Nat.{◌-◌}
use native.Mathlib.Omega.{arith}
use Rattle.downgraded_reader.specs.ReaderLaws.{line_first, line_later, end_inside}
use borrow.Author.Rules.{rules}
use Rattle.downgraded_reader.proofs.first_line.Goals as goal

pub returns-then-place-eq0 : goal.returns-then-place-eq0
returns-then-place-eq0 c = line_first _ _ c.if-place-eq0.true

pub overflow_sub-from : goal.overflow_sub-from
overflow_sub-from c = omega (arith, c.clip.ensures)

pub overflow_add-result : goal.overflow_add-result
overflow_add-result c = omega (arith, end_inside c.args.h.now (c.args.place - c.clip.result) (omega arith) c.line_end.ensures)

pub returns : goal.returns
returns c = line_later _ _ c.if-place-eq0.false c.clip.ensures c.line_end.ensures
