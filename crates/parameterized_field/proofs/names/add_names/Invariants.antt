use Rattle.parameter_names.specs.Names.{marked}
use Rattle.parameterized_field.specs.NamesLaws.{marked_step, marked_none, marked_grows}
use Rattle.parameterized_field.specs.Value.{start, names_from}
use Rattle.buffer.specs.BufferLaws.{capped_start, capped_turn, capped_end, length_capped}
use Rattle.buffer.specs.Buffer.{ReachedCapped}
use borrow.Author.Rules.{rules}
use native.Mathlib.Omega.{arith}
use lib.ListN.{length, drop}
use Prim.Native.Nat.{◌-◌, ◌*◌, ◌≤◌}
use Rattle.parameterized_field.proofs.names.add_names.Given as goal

abbrev pub invariant-loop-i : goal.invariant-loop-i
invariant-loop-i l = (l.next ≤ 2 * l.i) × (l.i ≤ length l.s) × ReachedCapped (marked (names_from start l.s)) (marked (names_from l.state (drop l.i l.s))) 0 l.initial.out l.out l.next

abbrev pub decreases-loop-i : goal.decreases-loop-i
decreases-loop-i l = length l.s - l.i
