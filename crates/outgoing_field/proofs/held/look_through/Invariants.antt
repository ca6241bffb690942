use Rattle.header.specs.AsciiFieldsLaws.{ascii_fields_lem}
use Rattle.header.specs.FieldLaws.{field_after}
use Rattle.outgoing_field.proofs.MostLaws.{Looking, looking_start, looking_skip, looking_next, looking_here, looking_end, looking_small}
use lib.ListN.{length}
use Prim.Native.Nat.{◌-◌}
use native.Mathlib.Omega.{arith}
use borrow.Author.Rules.{rules}
use Rattle.outgoing_field.proofs.held.look_through.Given as goal

abbrev pub invariant-loop-at : goal.invariant-loop-at
invariant-loop-at l = Looking l.rules l.h l.at l.most

abbrev pub decreases-loop-at : goal.decreases-loop-at
decreases-loop-at l = length l.h - l.at
