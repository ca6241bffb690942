use Rattle.std.proofs.Common.{◌*◌}
use Rattle.batch.specs.BatchLaws.{Going}
use Rattle.batch.proofs.downgrade.Given as goal

abbrev pub invariant-loop-k : goal.invariant-loop-k
invariant-loop-k l =
    Going l.rules l.input l.initial.records l.initial.envelope_buffer l.initial.header_buffer l.records l.envelope_buffer l.header_buffer (9 * l.k) l.envelope_at l.header_at
