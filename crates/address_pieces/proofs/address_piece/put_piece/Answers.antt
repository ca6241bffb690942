use Rattle.buffer.specs.BufferLaws.{wrote_of}
use native.Mathlib.Omega.{arith}
use borrow.Author.Rules.{rules}
use Rattle.address_pieces.proofs.address_piece.put_piece.Goals as goal

pub returns : goal.returns
returns c = wrote_of c.add_piece.ensures (omega (arith, c.requires))
