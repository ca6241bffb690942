-- What a header on its own is answered by the rules, and its buffer afterwards: the refusals of a header, their order, and what is written.
-- The call adds an envelope to it; for a mailbox it is all.
use Rattle.std.specs.Prelude.{cond, List, [], ◌∷◌, ℕ, ltb, length, Result, Ok, Err, ⊤}
use Rattle.buffer.specs.Buffer.{overlay}
use Rattle.encoded_word.specs.Segments.{rendered}
use Rattle.header_line.specs.Lines.{checked_lines, LineCheck}
use Rattle.rules.specs.declared.Rules.{Rules}
use Rattle.outgoing_field.specs.Fate.{FirstHeld}
use Rattle.outgoing_field.specs.Fate.FirstHeld.{Absent, At}
use Rattle.outgoing_field.specs.Fate.{header_segments, held_of}
use Rattle.offset.specs.Offset.{header_line_offset, field_offset}
use Rattle.outgoing_header.specs.declared.HeaderRefusal.{HeaderRefusal}
use Rattle.outgoing_header.specs.declared.HeaderRefusal.TheVariants.{Over, Line, Held, Needs}
use Rattle.outgoing_header.specs.declared.HeaderAnswer.{HeaderAnswer}

-- ---- the refusals

-- a header passes, or is refused
abbrev pub HeaderVerdict : Type 0
HeaderVerdict = Result ⊤ HeaderRefusal

-- the paper's number for each refusal of a header
unfoldable pub number_of : HeaderRefusal → ℕ
number_of Over = 1
number_of (Line line offset) = 5
number_of (Held line offset) = 6
number_of (Needs size) = 8

-- and its place: "1 header", a line, or the "length needed"
unfoldable pub place_of : HeaderRefusal → ℕ
place_of Over = 1
place_of (Line line offset) = line
place_of (Held line offset) = line
place_of (Needs size) = size

-- and its offset: a byte, "from the start of the .. header". "For 0, 1, 7 and 8 it is 0."
unfoldable pub offset_of : HeaderRefusal → ℕ
offset_of Over = 0
offset_of (Line line offset) = offset
offset_of (Held line offset) = offset
offset_of (Needs size) = 0

-- "header over 32,768"
unfoldable pub of_size : List ℕ → HeaderVerdict
of_size h = cond (ltb 32768 (length h)) (Err Over) (Ok tt)

-- "the first 5"
unfoldable pub of_lines : List ℕ → LineCheck → HeaderVerdict
of_lines h (Ok ok) = (Ok tt)
of_lines h (Err bad) = Err (Line bad.line (header_line_offset h bad.line bad.at))

-- 6 of a held field
unfoldable pub of_held : List ℕ → FirstHeld → HeaderVerdict
of_held h Absent = (Ok tt)
of_held h (At line at) = Err (Held line (field_offset h at))

-- "header output longer than its buffer": the buffer's room, and the output's length
unfoldable pub of_room : ℕ → ℕ → HeaderVerdict
of_room room size = cond (ltb room size) (Err (Needs size)) (Ok tt)

-- ---- their order

-- the first refusal of these
unfoldable pub first_of : List HeaderVerdict → HeaderVerdict
first_of [] = (Ok tt)
first_of ((Ok tt) ∷ more) = first_of more
first_of (Err refusal ∷ more) = Err refusal

-- the header written
unfoldable pub header_out : Rules → List ℕ → List ℕ
header_out rules h = rendered (header_segments rules h)

-- "Order: 1 ..; then the first 5; then 6 ..; then 8.", for a header and the length of a buffer
unfoldable pub header_verdict : Rules → List ℕ → ℕ → HeaderVerdict
header_verdict rules h room =
    first_of (of_size h ∷ of_lines h (checked_lines h) ∷ of_held h (held_of rules h) ∷ of_room room (length (header_out rules h)) ∷ [])

-- ---- what is answered, and the buffer

pub record HeaderOutcome : Type 0 where
  pub number : ℕ
  pub place : ℕ
  pub offset : ℕ
  pub len : ℕ
  pub buffer : List ℕ

-- "A refusal changes no byte of either buffer and gives both lengths as 0. After 0 the bytes past each length are as before."
unfoldable pub header_outcome_of : Rules → HeaderVerdict → List ℕ → List ℕ → HeaderOutcome
header_outcome_of rules (Err refusal) h c = record { number = number_of refusal; place = place_of refusal; offset = offset_of refusal; len = 0; buffer = c }
header_outcome_of rules (Ok tt) h c = record { number = 0; place = 0; offset = 0; len = length (header_out rules h); buffer = overlay (header_out rules h) c }

-- The outcome of a call with these rules, this header and this buffer.
unfoldable pub header_outcome : Rules → List ℕ → List ℕ → HeaderOutcome
header_outcome rules h c = header_outcome_of rules (header_verdict rules h (length c)) h c

-- an answer and a buffer as an outcome
abbrev pub header_observed : HeaderAnswer → List ℕ → HeaderOutcome
header_observed answer buffer = record { number = answer.number; place = answer.place; offset = answer.offset; len = answer.length; buffer = buffer }
