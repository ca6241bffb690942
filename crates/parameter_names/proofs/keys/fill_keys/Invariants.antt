use Rattle.parameter_names.specs.NamesLaws.{marked_ahead, marked_inside}
use Rattle.parameter_names.specs.KeysLaws.{Gathered, gathered_start, gathered_more, gathered_all}
use borrow.Author.Rules.{rules}
use native.Mathlib.Omega.{arith}
use lib.ListN.{length}
use Prim.Native.Nat.{◌-◌}
use Rattle.parameter_names.proofs.keys.fill_keys.Given as goal

abbrev pub invariant-loop-i : goal.invariant-loop-i
invariant-loop-i l = Gathered l.s l.i l.keys l.n

abbrev pub decreases-loop-i : goal.decreases-loop-i
decreases-loop-i l = length l.s - l.i
