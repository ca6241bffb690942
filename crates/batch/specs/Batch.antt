-- A batch: the single call for one record after another.
use Rattle.std.specs.Prelude.{Bool, cond, ◌||◌, List, [], ◌∷◌, ◌++◌, ℕ, zero, suc, ◌+◌, ◌/◌, ltb, length, take, drop, get_or}
use Rattle.rules.specs.declared.Rules.{Rules}
use Rattle.call.specs.Outcome.{Outcome, outcome}

-- ---- a record: "start and length of the envelope, then of the header, in one input buffer, then five we fill"

-- "a start plus its length past the end of the input buffer"
unfoldable pub past_end : List ℕ → ℕ → ℕ → Bool
past_end input start len = ltb (length input) (start + len)

-- so many bytes of the input buffer from a start on
unfoldable pub range : List ℕ → ℕ → ℕ → List ℕ
range input start len = take len (drop start input)

-- 9: "place, offset and lengths 0"
unfoldable pub range_refused : List ℕ → List ℕ → Outcome
range_refused b c = record { number = 9; input = 0; place = 0; offset = 0; envelope_len = 0; header_len = 0; envelope_buffer = b; header_buffer = c }

-- What becomes of a record with these four numbers, b and c being the room that is left: 9 "before all others", else a single call with the
-- envelope and the header that they name.
unfoldable pub range_outcome : Rules → List ℕ → ℕ → ℕ → ℕ → ℕ → List ℕ → List ℕ → Outcome
range_outcome rules input start₁ len₁ start₂ len₂ b c =
    cond (past_end input start₁ len₁ || past_end input start₂ len₂)
    (range_refused b c)
    (outcome rules (range input start₁ len₁) (range input start₂ len₂) b c)

-- the same of the record at the front of these numbers
unfoldable pub record_outcome : Rules → List ℕ → List ℕ → List ℕ → List ℕ → Outcome
record_outcome rules input records b c = range_outcome rules input (get_or records 0 0) (get_or records 1 0) (get_or records 2 0) (get_or records 3 0) b c

-- the five numbers: "number, place, offset and the two output lengths"
unfoldable pub answers : Outcome → List ℕ
answers o = o.number ∷ o.place ∷ o.offset ∷ o.envelope_len ∷ o.header_len ∷ []

-- ---- record after record

-- the records and both buffers afterwards
pub record Batch : Type 0 where
  pub records : List ℕ
  pub envelope_buffer : List ℕ
  pub header_buffer : List ℕ

-- n records, and buffers of which this room is left. "Outputs go one after another into the two buffers": a record's output is the front of
-- its buffer as far as the length that it answers, and what lies past it is the room of the next.
unfoldable pub batch_of : ℕ → Rules → List ℕ → List ℕ → List ℕ → List ℕ → Batch
batch_of zero rules input records b c = record { records = records; envelope_buffer = b; header_buffer = c }
batch_of (suc n) rules input records b c =
    let o = record_outcome rules input records b c in
    let rest = batch_of n rules input (drop 9 records) (drop o.envelope_len o.envelope_buffer) (drop o.header_len o.header_buffer) in
    record {
      records = take 4 records ++ (answers o ++ rest.records);
      envelope_buffer = take o.envelope_len o.envelope_buffer ++ rest.envelope_buffer;
      header_buffer = take o.header_len o.header_buffer ++ rest.header_buffer;
    }

-- "nine to a record"; "a last part of fewer than nine" is none
unfoldable pub batch : Rules → List ℕ → List ℕ → List ℕ → List ℕ → Batch
batch rules input records b c = batch_of (length records / 9) rules input records b c

-- records and buffers as a batch
abbrev pub afterwards : List ℕ → List ℕ → List ℕ → Batch
afterwards records envelope_buffer header_buffer = record { records = records; envelope_buffer = envelope_buffer; header_buffer = header_buffer }
