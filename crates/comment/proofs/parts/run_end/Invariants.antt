use Prim.Native.Nat.{◌+◌, ◌-◌}
use mathlib.Core.Bool.{false}
use mathlib.Core.Path.{◌≡◌, refl, sym, ◌∙◌}
use lib.ListN.{length, drop}
use native.Mathlib.Omega.{arith}
use Rattle.comment.specs.Comment.{is_paren, run_to, run_len}
use Rattle.comment.proofs.CommentLaws.{run_over}
use Rattle.comment.proofs.RunLaws.{text_over, text_found, text_last, text_escaped}
use borrow.Author.Rules.{rules}
use Rattle.comment.proofs.parts.run_end.Given as goal

abbrev pub invariant-loop-i : goal.invariant-loop-i
invariant-loop-i l = l.at + run_to is_paren false (drop l.at l.s) ≡ l.i + run_to is_paren false (drop l.i l.s)

abbrev pub decreases-loop-i : goal.decreases-loop-i
decreases-loop-i l = length l.s - l.i
