-- Laws of a header's outcome, case by case.
use Rattle.std.proofs.Math.Path.{◌≡◌, refl, sym}
use Rattle.std.proofs.Common.{ap, ◌∙◌, not-suc-le-zero, lt-ltb, le-ltb}
use Rattle.std.specs.Prelude.{true, false, List, [], ◌∷◌, ◌++◌, ℕ, ◌*◌, ◌≤◌, ◌<◌, ltb, Ok}
use native.Mathlib.Omega.{arith}
use Rattle.std.proofs.Math.ListN.{length}
use Rattle.std.proofs.Math.Facts.{ltb_yes, ltb_no}
use Rattle.lists.specs.ListsLaws.{by_test}
use Rattle.buffer.specs.Buffer.{Wrote, AppendedCapped}
use Rattle.buffer.specs.BufferLaws.{wrote_of}
use Rattle.encoded_word.specs.Segments.{rendered}
use Rattle.header_line.specs.Lines.{checked_lines}
use Rattle.rules.specs.declared.Rules.{Rules}
use Rattle.outgoing_field.specs.Fate.{FirstHeld}
use Rattle.outgoing_field.specs.Fate.FirstHeld.{Absent, At}
use Rattle.outgoing_field.specs.Fate.{segments_of, header_written, limited, held_of}
use Rattle.outgoing_field.proofs.FateLaws.{limited_short, unheld_header}
use Rattle.outgoing_field.specs.Most.{most_of}
use Rattle.outgoing_field.proofs.MostLaws.{most_le}
use Rattle.outgoing_field.proofs.OwedLaws.{owed_header}
use Rattle.offset.specs.Offset.{field_offset}
use Rattle.outgoing_header.specs.declared.HeaderRefusal.{HeaderRefusal}
use Rattle.outgoing_header.specs.declared.HeaderRefusal.TheVariants.{Over, Held, Needs}
use Rattle.outgoing_header.specs.declared.HeaderAnswer.{HeaderAnswer}
use Rattle.outgoing_header.specs.HeaderContent.{with_most}
use Rattle.outgoing_header.specs.HeaderOutcome.{number_of, place_of, offset_of, of_size, of_lines, of_held, of_room, first_of, header_out, header_verdict, header_outcome_of, header_outcome, header_observed}

-- what a refused header is answered
pub record RefusedBy (refusal : HeaderRefusal) (answer : HeaderAnswer) : Type 0 where
  pub number : answer.number ≡ number_of refusal
  pub place : answer.place ≡ place_of refusal
  pub offset : answer.offset ≡ offset_of refusal
  pub none : answer.length ≡ 0

-- r tells whether so many bytes fit a room: where r fits it they do, else r is how many they are.
pub record Needed (size room r : ℕ) : Type 0 where
  pub enough : r ≤ room → size ≤ room
  pub exact : room < r → r ≡ size

-- ---- what the writers need

-- a header within its limit whose lines are well formed and no field of which is held
pub record Passed (rules : Rules) (h : List ℕ) : Type 0 where
  pub short : length h ≤ 32768
  pub lines : checked_lines h ≡ Ok tt
  pub none : held_of rules h ≡ Absent
