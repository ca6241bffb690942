use Rattle.envelope_line.proofs.WriteLaws.{path_part, front_part, written_ascii, written_high, new_path_lem, rest_without}
use Rattle.buffer.specs.BufferLaws.{capped_then, capped_same}
use native.Mathlib.Omega.{arith}
use Rattle.envelope_line.proofs.output.add_text.Goals as goal

pub returns-then-is_ascii : goal.returns-then-is_ascii
returns-then-is_ascii c = capped_same (written_ascii _ _ (path_part _ _ _ _ c.path_start-start.ensures c.path_end.ensures c.part.ensures) c.is_ascii.ensures c.if-is_ascii.true) c.add_slice.ensures

pub returns : goal.returns
returns c = capped_same (written_high _ _ (path_part _ _ _ _ c.path_start-start.ensures c.path_end.ensures c.part.ensures) c.is_ascii.ensures c.if-is_ascii.false (front_part c.args.mail c.args.line.now c.path_start-start.result c.path_start-start.ensures c.part-2.ensures) (new_path_lem _ _ c.tail_start-rest.result c.tail_start-rest.ensures.1) (rest_without _ _ c.tail_start-rest.result c.tail_start-rest.ensures.1)) (capped_then (capped_then (capped_then c.add_slice-a.ensures c.add_new_path-b.ensures (omega (arith, c.well_formed.0.0))) c.add_byte-c.ensures (omega (arith, c.well_formed.0.0))) c.add_without_alt.ensures (omega (arith, c.well_formed.0.0)))
