use Rattle.address_pieces.proofs.WritingLaws.{wrote_then}
use Rattle.buffer.specs.BufferLaws.{capped_then}
use mathlib.Core.List.{[], ◌∷◌}
use lib.ListN.{length-append}
use native.Mathlib.Omega.{arith}
use borrow.Author.Rules.{rules}
use Rattle.address_pieces.proofs.address_piece.put_in_angles.Goals as goal

pub returns : goal.returns
returns c = wrote_then c.put_slice-open.ensures (capped_then c.add_slice-close.ensures c.add_byte.ensures (omega arith)) (omega (arith, c.requires, length-append c.args.address.now (62 ∷ [])))
