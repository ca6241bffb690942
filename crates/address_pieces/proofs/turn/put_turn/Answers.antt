use Rattle.address_pieces.proofs.PiecesLaws.{turn_group, turn_part}
use Rattle.piece.proofs.PieceLaws.{wrote_same}
use Rattle.group.proofs.TrimmedLaws.{trimmed_le}
use lib.ListN.{length}
use mathlib.Core.Path.{ap}
use native.Mathlib.Omega.{arith}
use Rattle.address_pieces.proofs.turn.put_turn.Goals as goal

pub put_part-requires : goal.put_part-requires
put_part-requires c = (c.requires.0, (c.requires.1.0, rw c.in-OnePart.is at c.requires.1.1))

pub returns-in-OnePart : goal.returns-in-OnePart
returns-in-OnePart c = wrote_same (turn_part _ _ _ c.in-OnePart.is) c.put_part.ensures

pub put_removed-requires : goal.put_removed-requires
put_removed-requires c = omega (arith, ap length c.trimmed.ensures, trimmed_le c.args.t.now, c.requires.0)

pub returns-in-LostGroup : goal.returns-in-LostGroup
returns-in-LostGroup c = wrote_same (turn_group _ _ c.in-LostGroup.is) (rw c.trimmed.ensures at c.put_removed.ensures)
