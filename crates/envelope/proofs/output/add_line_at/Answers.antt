use Rattle.envelope.proofs.LinesLaws.{text_part}
use Rattle.envelope.proofs.WrittenLaws.{added_line}
use Rattle.envelope.proofs.output.add_line_at.Goals as goal

pub returns : goal.returns
returns c = added_line c.args.mail (text_part _ _ _ c.line_end-end.ensures c.part.ensures) c.add_line.ensures
