use Rattle.buffer.specs.BufferLaws.{capped_same}
use Rattle.envelope.proofs.LinesLaws.{text_part}
use Rattle.envelope.proofs.WrittenLaws.{replaced_mail}
use Rattle.envelope.proofs.output.put_mail_replacement.Goals as goal

pub returns : goal.returns
returns c = capped_same (replaced_mail _ (text_part _ _ _ c.line_end-end.ensures c.part.ensures)) c.add_replacement.ensures
