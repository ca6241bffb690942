use Rattle.word_choice.specs.BlockLaws.{Placed}
use Prim.Native.Nat.{◌≤◌}
use Rattle.word_choice.proofs.block.regular.Given as goal

abbrev pub invariant-loop-k : goal.invariant-loop-k
invariant-loop-k l = (2 ≤ l.k) × (l.k ≤ 50) × Placed l.s l.k l.ok
