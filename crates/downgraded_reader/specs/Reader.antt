-- What a call of the reader answers and leaves, by functions: what code is checked against. reader_grammar has the grammar.
use Rattle.std.specs.Prelude.{Bool, cond, List, [], ◌∷◌, ℕ, zero, suc, ◌+◌, ◌-◌, eqb, leb, ltb, length, take, drop}
use Rattle.buffer.specs.Buffer.{overlay}
use Rattle.letter_case.specs.LetterCase.{bytes, same_any_case}
use Rattle.line.specs.Line.{line_len}
use Rattle.header.specs.Fields.{field_len}
use Rattle.std.specs.Prelude.{Some, None, Ok, Err}
use Rattle.std.specs.declared.option.Option.{Option}
use Rattle.std.specs.declared.result.Result.{Result}
use Rattle.downgraded_field.specs.declared.FieldFault.{FieldFault}
use Rattle.downgraded_field.specs.FieldFaults.{number_of as fault_number}
use Rattle.downgraded_field.specs.Shown.{field_read, field_text}
use Rattle.downgraded_reader.specs.declared.Unread.{Unread}
use Rattle.downgraded_reader.specs.declared.Unread.TheVariants.{Fault, Room}
use Rattle.downgraded_reader.specs.declared.Found.{Found}
use Rattle.downgraded_reader.specs.declared.ReadAnswer.{ReadAnswer}

-- ---- the field

-- "a line beginning `Downgraded-` (any case)"
unfoldable pub is_downgraded : List ℕ → Bool
is_downgraded s = same_any_case (take 11 s) (bytes "Downgraded-")

-- where the first line begins from a place on: at the header's start, or after the first CRLF whose next line begins there or later
unfoldable pub first_line : List ℕ → ℕ → ℕ
first_line h place = cond (eqb place 0) 0 (place - 2 + line_len (drop (place - 2) h) + 2)

-- how many bytes stand before the first such line, after k bytes of the line before
unfoldable pub to_field_after : ℕ → List ℕ → ℕ
to_field_after k [] = k
to_field_after (suc k) (b ∷ rest) = suc (to_field_after k rest)
to_field_after zero (b ∷ rest) = cond (is_downgraded (b ∷ rest)) 0 (suc (to_field_after (line_len (b ∷ rest) + 1) rest))

-- where the first field begins from a place on; past the header where there is none
unfoldable pub field_start : List ℕ → ℕ → ℕ
field_start h place = first_line h place + to_field_after 0 (drop (first_line h place) h)

-- the field at a place: "to the next line not begun by space or TAB"
unfoldable pub field_at : List ℕ → ℕ → List ℕ
field_at h start = take (field_len (drop start h)) (drop start h)

-- ---- the answer

-- a text, where the room holds it
unfoldable pub fitting : ℕ → Result ℕ FieldFault → Result ℕ Unread
fitting room (Ok size) = cond (leb size room) (Ok size) (Err (Room size))
fitting room (Err fault) = Err (Fault fault)

unfoldable pub of_field : ℕ → ℕ → ℕ → Result ℕ FieldFault → Found
of_field room start next read = record { start = start; next = next; text = fitting room read }

-- for a header, a place and the length of a buffer
unfoldable pub reading : List ℕ → ℕ → ℕ → Option Found
reading h place room =
    let start = field_start h place in
    cond (ltb start (length h)) (Some (of_field room start (start + field_len (drop start h)) (field_read (field_at h start)))) None

-- "a refused field writes nothing"
unfoldable pub text_left : Result ℕ Unread → List ℕ → List ℕ → List ℕ
text_left (Ok size) text buffer = overlay text buffer
text_left (Err why) text buffer = buffer

unfoldable pub left_by : Option Found → List ℕ → List ℕ → List ℕ
left_by None text buffer = buffer
left_by (Some field) text buffer = text_left field.text text buffer

-- the buffer afterwards
unfoldable pub buffer_after : List ℕ → ℕ → List ℕ → List ℕ
buffer_after h place buffer = left_by (reading h place (length buffer)) (field_text (field_at h (field_start h place))) buffer

-- ---- by numbers

-- the request's number
unfoldable pub text_number : Result ℕ Unread → ℕ
text_number (Ok size) = 0
text_number (Err (Fault fault)) = fault_number fault
text_number (Err (Room size)) = 5

-- 6 where there is no field
unfoldable pub number_of : Option Found → ℕ
number_of None = 6
number_of (Some field) = text_number field.text

-- where the field begins; the header's end where there is none
unfoldable pub start_of : ℕ → Option Found → ℕ
start_of end None = end
start_of end (Some field) = field.start

-- "the place after it"
unfoldable pub next_of : ℕ → Option Found → ℕ
next_of end None = end
next_of end (Some field) = field.next

-- the text's length, written or needed
unfoldable pub text_size : Result ℕ Unread → ℕ
text_size (Ok size) = size
text_size (Err (Fault fault)) = 0
text_size (Err (Room size)) = size

unfoldable pub length_of : Option Found → ℕ
length_of None = 0
length_of (Some field) = text_size field.text

-- what a call answers and leaves
pub record Outcome : Type 0 where
  pub number : ℕ
  pub start : ℕ
  pub next : ℕ
  pub size : ℕ
  pub buffer : List ℕ

unfoldable pub outcome : List ℕ → ℕ → List ℕ → Outcome
outcome h place buffer =
    let r = reading h place (length buffer) in
    record { number = number_of r; start = start_of (length h) r; next = next_of (length h) r; size = length_of r; buffer = buffer_after h place buffer }

-- an answer and a buffer as an outcome
abbrev pub observed : ReadAnswer → List ℕ → Outcome
observed answer buffer = record { number = answer.number; start = answer.start; next = answer.next; size = answer.length; buffer = buffer }
