use Rattle.buffer.specs.BufferLaws.{wrote_from, wrote_empty, appended_byte}
use mathlib.Core.Path.{refl}
use native.Mathlib.Omega.{arith}
use Rattle.buffer.proofs.put_byte.Goals as goal

pub returns-then-out-gt0 : goal.returns-then-out-gt0
returns-then-out-gt0 c = wrote_from (appended_byte 0 _ _)

pub returns-else-out-gt0 : goal.returns-else-out-gt0
returns-else-out-gt0 c = wrote_empty (omega arith) refl
