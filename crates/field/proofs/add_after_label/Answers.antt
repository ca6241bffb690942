use Rattle.buffer.specs.BufferLaws.{capped_then}
use native.Mathlib.Omega.{arith}
use borrow.Author.Rules.{rules}
use Rattle.field.proofs.add_after_label.Goals as goal

pub returns : goal.returns
returns c = capped_then c.add_after-end.ensures c.add_slice.ensures (omega arith)
