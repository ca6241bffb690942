-- The measure is what is left of the text: a comment inside starts past its parenthesis. The loop's invariant: what is closed from
-- `at` on is closed at the same place from i on.
use Rattle.std.proofs.Common.{◌≡◌, ◌-◌, ◌≤◌, length}
use Rattle.comment.specs.CommentLaws.{close_at}
use Rattle.comment.proofs.+inside.Given as goal

-- the remaining length
abbrev pub decreases-inside : goal.decreases-inside
decreases-inside l = length l.s.now - l.at

abbrev pub invariant-loop-i : goal.invariant-loop-i
invariant-loop-i l = (close_at 0 l.s l.at ≡ close_at 0 l.s l.i) × (l.at ≤ l.i)

abbrev pub decreases-loop-i : goal.decreases-loop-i
decreases-loop-i l = length l.s - l.i
