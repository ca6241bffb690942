use Rattle.std.proofs.Common.{length, ◌-◌, ◌≡◌}
use Rattle.buffer.specs.Buffer.{ReachedCapped}
use Rattle.encoded_word.specs.Segments.{rendered}
use Rattle.structured_field.proofs.rule.add_value.Given as goal

abbrev pub invariant-loop-i : goal.invariant-loop-i
invariant-loop-i g l = record {
  reached : ReachedCapped (rendered (g.R.ValueRule.segments_from g.R.ValueRule.begun l.value 0)) (rendered (g.R.ValueRule.segments_from l.state l.value l.i)) l.at l.initial.out l.out l.next;
  room : length l.scratch ≡ length l.initial.scratch;
}

abbrev pub decreases-loop-i : goal.decreases-loop-i
decreases-loop-i g l = length l.value - l.i
