use Rattle.header.specs.AsciiFieldsLaws.{ascii_fields_lem}
use borrow.Author.Rules.{rules}
use Rattle.outgoing_field.proofs.FateLaws.{Fielding, fielding_start, fielding_skip, fielding_next, fielding_end, length_fielding}
use Rattle.header.specs.FieldLaws.{field_after}
use Prim.Native.Nat.{◌-◌}
use native.Mathlib.Omega.{arith}
use lib.ListN.{length}
use Rattle.outgoing_field.proofs.writer.add_all.Given as goal

abbrev pub invariant-loop-i : goal.invariant-loop-i
invariant-loop-i l = Fielding l.rules l.h l.i l.at l.initial.out l.out l.next

abbrev pub decreases-loop-i : goal.decreases-loop-i
decreases-loop-i l = length l.h - l.i
