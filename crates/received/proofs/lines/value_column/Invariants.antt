use Prim.Native.Nat.{◌-◌}
use lib.Dec.{eqb}
use lib.ListN.{length, drop}
use native.Mathlib.Omega.{arith}
use mathlib.Core.Path.{◌≡◌, refl, sym, ◌∙◌}
use Rattle.encoded_word.specs.Segments.{rendered}
use Rattle.structured_token.specs.Walk.{becoming}
use Rattle.received.specs.Received.{received_front, value_segments, column_after}
use Rattle.received.specs.Received.Place.{place}
use Rattle.received.proofs.PassesLaws.{column_step, column_end}
use borrow.Author.Rules.{rules}
use Rattle.received.proofs.lines.value_column.Given as goal

abbrev pub invariant-loop-i : goal.invariant-loop-i
invariant-loop-i l = column_after l.column (rendered (value_segments l.value)) ≡ column_after l.at (rendered (becoming received_front (place l.comments (eqb l.i 0)) (drop l.i l.value)))

abbrev pub decreases-loop-i : goal.decreases-loop-i
decreases-loop-i l = length l.value - l.i
