use Rattle.structured_field.specs.WritingLaws.{part_served, comment_next, comment_none}
use Rattle.structured_field.specs.StructuredField.{part_segments}
use Rattle.comment.proofs.PartsLaws.{part_beyond, part_end_within}
use Rattle.comment.specs.Parts.{parts}
use Rattle.encoded_word.specs.Segments.{rendered}
use Rattle.buffer.specs.BufferLaws.{capped_start, capped_turn, capped_end, length_capped}
use Rattle.buffer.specs.Buffer.{ReachedCapped}
use Rattle.lists.specs.Lists.{joined}
use borrow.Author.Rules.{rules}
use native.Mathlib.Omega.{arith}
use lib.ListN.{length, drop}
use mathlib.Core.Path.{◌≡◌, refl}
use mathlib.Core.List.{map}
use Prim.Native.Nat.{◌-◌}
use Rattle.structured_field.proofs.writer.add_parts.Given as goal

abbrev pub invariant-loop-i : goal.invariant-loop-i
invariant-loop-i l = ReachedCapped (rendered (joined (map part_segments (parts l.comment)))) (rendered (joined (map part_segments (parts (drop l.i l.comment))))) l.at l.initial.out l.out l.next × (length l.scratch ≡ length l.initial.scratch)

abbrev pub decreases-loop-i : goal.decreases-loop-i
decreases-loop-i l = length l.comment - l.i
