use Prim.Native.Nat.{◌-◌}
use mathlib.Core.Bool.{true, false}
use mathlib.Core.Path.{◌≡◌, refl, sym, ◌∙◌}
use lib.ListN.{length, drop}
use native.Mathlib.Omega.{arith}
use borrow.Author.Rules.{rules}
use borrow.Author.Tests.{not-true, not-false}
use Rattle.lists.specs.Lists.{all}
use Rattle.comment.specs.Parts.{parts, fits}
use Rattle.comment.proofs.PartsLaws.{part_beyond, part_end_within, fit_over, fit_at}
use Rattle.comment.proofs.parts.parts_fit.Given as goal

abbrev pub invariant-loop-i : goal.invariant-loop-i
invariant-loop-i l = all fits (parts l.comment) ≡ all fits (parts (drop l.i l.comment))

abbrev pub decreases-loop-i : goal.decreases-loop-i
decreases-loop-i l = length l.comment - l.i
