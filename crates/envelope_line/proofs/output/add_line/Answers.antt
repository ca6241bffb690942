use Rattle.buffer.specs.BufferLaws.{capped_then}
use native.Mathlib.Omega.{arith}
use Rattle.envelope_line.proofs.output.add_line.Goals as goal

pub returns : goal.returns
returns c = capped_then c.add_text-next.ensures c.add_slice.ensures (omega arith)
