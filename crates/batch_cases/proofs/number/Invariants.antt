use Rattle.std.proofs.Common.{◌≤◌}
use Rattle.batch_cases.proofs.number.Given as goal

abbrev pub invariant-loop-digit : goal.invariant-loop-digit
invariant-loop-digit l = l.n ≤ 4294967295
