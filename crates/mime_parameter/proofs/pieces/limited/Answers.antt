use Rattle.std.proofs.Common.{arith, refl, le-leb}
use Rattle.std.proofs.lemmas.Bool.{lt-leb}
use Rattle.mime_parameter.specs.Pieces.{limited}
use Rattle.mime_parameter.proofs.pieces.limited.Goals as goal

pub returns-then-text-le32768 : goal.returns-then-text-le32768
unfolding limited
returns-then-text-le32768 c = (rw (le-leb _ _ c.if-text-le32768.true) refl, c.if-text-le32768.true)

pub returns-else-text-le32768 : goal.returns-else-text-le32768
unfolding limited
returns-else-text-le32768 c = (rw (lt-leb _ _ c.if-text-le32768.false) refl, omega arith)
