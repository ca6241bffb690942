use borrow.Author.Rules.{rules}
use Rattle.word_reader.specs.WordLaws.{Units, units_start, units_next, units_end, length_units}
use Prim.Native.Nat.{◌-◌}
use native.Mathlib.Omega.{arith}
use lib.ListN.{length}
use Rattle.word_reader.proofs.q_text.add.Given as goal

abbrev pub invariant-loop-i : goal.invariant-loop-i
invariant-loop-i l = Units l.s l.at l.initial.out l.out l.i l.next l.ok

abbrev pub decreases-loop-i : goal.decreases-loop-i
decreases-loop-i l = length l.s - l.i
