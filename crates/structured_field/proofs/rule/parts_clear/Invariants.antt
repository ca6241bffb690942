use Rattle.std.proofs.Common.{length, ◌-◌, ◌≡◌, ◌≤◌}
use Rattle.structured_field.proofs.rule.parts_clear.Given as goal

abbrev pub invariant-loop-i : goal.invariant-loop-i
invariant-loop-i g l = record {
  rest : g.R.ValueRule.clear_from g.R.ValueRule.begun l.value 0 ≡ g.R.ValueRule.clear_from l.state l.value l.i;
  room : length l.scratch ≡ length l.initial.scratch;
}

abbrev pub decreases-loop-i : goal.decreases-loop-i
decreases-loop-i g l = length l.value - l.i
