use mathlib.Core.Path.{sym, ◌∙◌, ap}
use lib.ListN.{length}
use Prim.Native.Nat.{◌-◌}
use native.Mathlib.Omega.{arith}
use borrow.Author.Tests.{not-true, not-false}
use Rattle.downgraded_field.specs.FormedLaws.{Formed, formed_bad, formed_start, formed_end, formed_blank, formed_line, formed_next, formed_more}
use borrow.Author.Rules.{rules}
use Rattle.downgraded_field.proofs.is_formed.Given as goal

abbrev pub invariant-loop-at : goal.invariant-loop-at
invariant-loop-at l = Formed l.field l.at

abbrev pub decreases-loop-at : goal.decreases-loop-at
decreases-loop-at l = length l.field - l.at
