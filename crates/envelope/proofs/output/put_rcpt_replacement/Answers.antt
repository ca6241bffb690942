use Rattle.envelope.proofs.LinesLaws.{text_part}
use Rattle.envelope.proofs.WrittenLaws.{replaced_other, replaced_one}
use Rattle.buffer.specs.BufferLaws.{capped_none, capped_same}
use native.Mathlib.Omega.{arith}
use Rattle.envelope.proofs.output.put_rcpt_replacement.Goals as goal

pub returns-then-count-ne1 : goal.returns-then-count-ne1
returns-then-count-ne1 c = capped_same (replaced_other _ _ _ c.if-count-ne1.true) (capped_none _ _ (omega arith))

pub returns : goal.returns
returns c = capped_same (replaced_one _ _ _ c.if-count-ne1.false (text_part _ _ _ c.line_end-end.ensures c.part.ensures)) c.add_replacement.ensures
