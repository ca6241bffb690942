use Rattle.mime_parameter.specs.WritingLaws.{room_alone, room_parts}
use Rattle.mime_parameter.proofs.pieces.limited_room.Goals as goal

pub returns-then-fits_alone : goal.returns-then-fits_alone
returns-then-fits_alone c = room_alone _ _ c.fits_alone.ensures c.if-fits_alone.true

pub returns : goal.returns
returns c = room_parts _ _ c.fits_alone.ensures c.if-fits_alone.false c.parts_fit.ensures
