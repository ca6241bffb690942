use Rattle.mime_parameter.specs.WritingLaws.{lines_alone, lines_parts}
use Rattle.mime_parameter.proofs.pieces.add_limited.Goals as goal

pub returns-then-fits_alone : goal.returns-then-fits_alone
returns-then-fits_alone c = lines_alone _ _ c.fits_alone.ensures c.if-fits_alone.true c.add_alone.ensures

pub returns : goal.returns
returns c = lines_parts _ _ c.fits_alone.ensures c.if-fits_alone.false c.add_parts.ensures
