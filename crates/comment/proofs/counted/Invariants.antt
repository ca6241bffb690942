use Prim.Native.Nat.{◌-◌, ◌≤◌}
use mathlib.Core.Logic.{⊎_elim}
use mathlib.Core.Path.{◌≡◌, refl, sym, ◌∙◌}
use lib.ListN.{length}
use native.Mathlib.Omega.{arith}
use borrow.Author.Rules.{rules}
use Rattle.comment.specs.CommentLaws.{close_at}
use Rattle.comment.proofs.CommentLaws.{close_end, run_unclosed, run_opens, run_closes, run_closes_last}
use Rattle.comment.proofs.counted.Given as goal

abbrev pub invariant-loop-i : goal.invariant-loop-i
invariant-loop-i l = (close_at 0 l.s l.at ≡ close_at l.deeper l.s l.i) × (l.deeper ≤ l.i)

abbrev pub decreases-loop-i : goal.decreases-loop-i
decreases-loop-i l = length l.s - l.i
