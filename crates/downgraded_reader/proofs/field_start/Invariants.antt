use mathlib.Core.Path.{sym, ◌∙◌}
use lib.ListN.{length}
use Prim.Native.Nat.{◌-◌}
use native.Mathlib.Omega.{arith}
use Rattle.downgraded_reader.specs.ReaderLaws.{end_inside, Searching, searching_start, searching_found, searching_next, searching_end}
use borrow.Author.Rules.{rules}
use Rattle.downgraded_reader.proofs.field_start.Given as goal

abbrev pub invariant-loop-at : goal.invariant-loop-at
invariant-loop-at l = Searching l.h l.place l.at

abbrev pub decreases-loop-at : goal.decreases-loop-at
decreases-loop-at l = length l.h - l.at
