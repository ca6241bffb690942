use Rattle.std.proofs.Common.{◌≡◌, ◌+◌, ◌-◌, ◌≤◌, length}
use Rattle.utf8.specs.Window.{window_at, all_at}
use Rattle.utf8.proofs.all_windows.Given as goal

abbrev pub invariant-loop-i : goal.invariant-loop-i
invariant-loop-i g l = (l.i ≤ 3 + (length l.s - 3)) × (l.ok ≡ all_at (window_at g.W.Window.passes l.s) 0 (l.i - 3))
