use native.Mathlib.Omega.{arith}
use Rattle.buffer.specs.BufferLaws.{capped_then}
use borrow.Author.Rules.{rules}
use Rattle.piece.proofs.add_piece.Goals as goal

pub returns : goal.returns
returns c = capped_then c.add_slice-next.ensures c.add_slice.ensures (omega arith)
