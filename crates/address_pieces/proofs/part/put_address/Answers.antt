use Rattle.piece.proofs.PieceLaws.{wrote_same}
use Rattle.address_pieces.proofs.PiecesLaws.{address_ascii, address_high}
use mathlib.Core.Path.{sym, ◌∙◌}
use Rattle.address_pieces.proofs.part.put_address.Goals as goal

pub returns-then-is_ascii : goal.returns-then-is_ascii
returns-then-is_ascii g c = wrote_same (address_ascii _ _ g.F.Form.piece (sym c.is_ascii.ensures ∙ c.if-is_ascii.true)) c.put.ensures

pub returns : goal.returns
returns g c = wrote_same (address_high _ _ g.F.Form.piece (sym c.is_ascii.ensures ∙ c.if-is_ascii.false)) c.put_removed.ensures
