use Rattle.envelope_line.proofs.WriteLaws.{path_part, replaced_ascii, replaced_high, new_path_lem}
use Rattle.buffer.specs.BufferLaws.{capped_none, capped_then, capped_same}
use native.Mathlib.Omega.{arith}
use Rattle.envelope_line.proofs.output.add_replacement.Goals as goal

pub returns-then-is_ascii : goal.returns-then-is_ascii
returns-then-is_ascii c = capped_same (replaced_ascii _ _ (path_part _ _ _ _ c.path_start-start.ensures c.path_end-end.ensures c.part-old.ensures) c.is_ascii.ensures c.if-is_ascii.true) (capped_none _ _ (omega arith))

pub returns : goal.returns
returns c = capped_same (replaced_high _ _ (path_part _ _ _ _ c.path_start-start.ensures c.path_end-end.ensures c.part-old.ensures) c.is_ascii.ensures c.if-is_ascii.false (new_path_lem _ _ c.tail_start-rest.result c.tail_start-rest.ensures.1)) (capped_then (capped_then (capped_then (capped_then c.add_byte-a.ensures c.add_slice-b.ensures (omega (arith, c.well_formed.0.0))) c.add_slice-c.ensures (omega (arith, c.well_formed.0.0))) c.add_new_path-d.ensures (omega (arith, c.well_formed.0.0))) c.add_slice.ensures (omega (arith, c.well_formed.0.0)))
