use Rattle.mime_parameter.specs.WritingLaws.{alone_fits}
use Rattle.mime_parameter.specs.ExtendedLaws.{length_extended}
use mathlib.Core.Path.{refl}
use native.Mathlib.Omega.{arith}
use Rattle.mime_parameter.proofs.pieces.fits_alone.Goals as goal

pub overflow_add-result-2 : goal.overflow_add-result-2
overflow_add-result-2 c = omega (arith, c.extended_len.ensures, (length_extended c.args.text.now).1)

pub returns : goal.returns
returns c = alone_fits _ _ _ _ refl c.extended_len.ensures
