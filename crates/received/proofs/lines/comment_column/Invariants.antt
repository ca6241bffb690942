use Prim.Native.Nat.{◌-◌}
use mathlib.Core.Path.{◌≡◌, refl, sym, ◌∙◌}
use lib.ListN.{length, drop}
use native.Mathlib.Omega.{arith}
use borrow.Author.Rules.{rules}
use Rattle.comment.proofs.PartsLaws.{part_beyond, part_end_within}
use Rattle.received.specs.Received.{column_after}
use Rattle.received.specs.CommentLinesLaws.{comment_step, comment_over, comment_bytes}
use Rattle.received.proofs.lines.comment_column.Given as goal

abbrev pub invariant-loop-i : goal.invariant-loop-i
invariant-loop-i l = column_after l.column (comment_bytes l.comment) ≡ column_after l.at (comment_bytes (drop l.i l.comment))

abbrev pub decreases-loop-i : goal.decreases-loop-i
decreases-loop-i l = length l.comment - l.i
