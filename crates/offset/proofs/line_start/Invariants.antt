use Rattle.std.proofs.Common.{◌≡◌, ◌+◌, ◌-◌, ◌≤◌, length, drop}
use Rattle.offset.specs.Offset.{line_start}
use Rattle.offset.proofs.line_start.Given as goal

abbrev pub invariant-loop : goal.invariant-loop
invariant-loop l = (l.i ≤ length l.s) × (line_start l.n l.s ≡ l.i + line_start (l.n - l.counter) (drop l.i l.s))
