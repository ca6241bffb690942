use Rattle.address_list.specs.Parts.{changes}
use mathlib.Core.Path.{refl, sym, ◌∙◌}
use Prim.Native.Nat.{◌-◌}
use native.Mathlib.Omega.{arith}
use lib.ListN.{length}
use Rattle.address_list.specs.TableLaws.{Walked, walked_start, walked_unfit, walked_next, walked_end}
use borrow.Author.Rules.{rules}
use Rattle.address_list.proofs.list.examine.Given as goal

abbrev pub invariant-loop-i : goal.invariant-loop-i
invariant-loop-i l = Walked l.rules l.s l.i l.state l.changed

abbrev pub decreases-loop-i : goal.decreases-loop-i
decreases-loop-i l = length l.s - l.i
