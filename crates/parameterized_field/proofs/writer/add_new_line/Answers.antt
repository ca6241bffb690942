use Rattle.buffer.specs.BufferLaws.{capped_none}
use native.Mathlib.Omega.{arith}
use borrow.Author.Rules.{rules}
use Rattle.parameterized_field.proofs.writer.add_new_line.Goals as goal

pub returns-then-fresh : goal.returns-then-fresh
returns-then-fresh c = rw c.if-fresh.true c.add_slice.ensures

pub returns : goal.returns
returns c = rw c.if-fresh.false (capped_none _ _ (omega arith))
