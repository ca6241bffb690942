use Rattle.envelope_line.proofs.WriteLaws.{wrote_same}
use Rattle.parameter.specs.ParameterLaws.{value_part}
use Rattle.xtext.specs.Xtext.{decoded}
use Rattle.buffer.specs.BufferLaws.{added_by}
use mathlib.Core.Path.{ap}
use Rattle.envelope_line.proofs.output.add_decoded.Goals as goal

pub returns : goal.returns
returns c = added_by _ _ _ _ _ c.clip-a.ensures (wrote_same (ap decoded (value_part _ _ c.part-v.ensures c.value_start.ensures.1)) c.put_decoded.ensures) c.place_after.ensures
