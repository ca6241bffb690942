use Rattle.word_spelling.specs.FirstChars.{costs_in}
use Prim.Native.Nat.{◌+◌, ◌-◌, ◌*◌, ◌≤◌}
use lib.ListN.{take, drop}
use mathlib.Core.Path.{◌≡◌}
use Rattle.word_spelling.proofs.char_cost.Given as goal

abbrev pub invariant-loop-j : goal.invariant-loop-j
invariant-loop-j l = (l.i ≤ l.j) × (l.j ≤ l.i + 8) × (l.n ≤ 3 * (l.j - l.i)) × (l.n + costs_in l.first (take (l.end - l.j) (drop l.j l.s)) ≡ costs_in l.first (take (l.end - l.i) (drop l.i l.s)))
