-- "No recipient learns of another": what the header that goes out tells of the recipients.
use Rattle.std.specs.Prelude.{◌≡◌, List, [], ◌∷◌, ◌++◌, ℕ, ◌/◌, ◌≤◌, ◌<◌, length, take, drop, get_or}
use Rattle.call.specs.declared.Answer.{Answer}
use Rattle.batch.specs.Batch.{Batch}
use Rattle.batch.specs.BatchRecords.{from_record, envelope_of, header_of, used₂}

-- lines, "each ended by CRLF"
abbrev pub each_ended : List (List ℕ) → List ℕ
each_ended [] = []
each_ended (line ∷ more) = line ++ (13 ∷ 10 ∷ each_ended more)

-- "two envelopes with the same MAIL line, each with any two or more RCPT lines"
pub record SameSender (e f : List ℕ) : Type 0 where
  pub mail : List ℕ
  pub rcpts : List (List ℕ)
  pub others : List (List ℕ)
  pub envelope : e ≡ each_ended (mail ∷ rcpts)
  pub other_envelope : f ≡ each_ended (mail ∷ others)
  pub several : 2 ≤ length rcpts
  pub other_several : 2 ≤ length others

-- ---- two calls: what they answer, r and s, and the header buffers afterwards, c and d

-- "the header bytes and header length are equal"
pub record SameHeader (r : Answer) (c : List ℕ) (s : Answer) (d : List ℕ) : Type 0 where
  pub len : r.header_len ≡ s.header_len
  pub bytes : take r.header_len c ≡ take s.header_len d

-- "If both calls succeed .., the header bytes and header length are equal.", for the envelopes e and f
pub record Undisclosed (e f : List ℕ) (r : Answer) (c : List ℕ) (s : Answer) (d : List ℕ) : Type 0 where
  pub same : SameSender e f → r.number ≡ 0 → s.number ≡ 0 → SameHeader r c s d

-- ---- two records of batches

-- of a record by its number, from 0 on: the number and the header length that it is answered,
abbrev pub number_at : Batch → ℕ → ℕ
number_at batch k = get_or (from_record k batch.records) 4 0

abbrev pub header_len_at : Batch → ℕ → ℕ
header_len_at batch k = get_or (from_record k batch.records) 8 0

-- and its header bytes, "at the sum of the earlier header lengths"
abbrev pub header_bytes_at : Batch → ℕ → List ℕ
header_bytes_at batch k = take (header_len_at batch k) (drop (used₂ k batch) batch.header_buffer)

-- a record of a batch that names an envelope and a header, and is answered 0
pub record Sent (input records : List ℕ) (batch : Batch) (k : ℕ) (e h : List ℕ) : Type 0 where
  pub there : k < length records / 9
  pub envelope : envelope_of input (from_record k records) ≡ e
  pub header : header_of input (from_record k records) ≡ h
  pub number : number_at batch k ≡ 0

-- "Likewise for two records of a batch.": record k of a batch that leaves o, record l of one that leaves p, which may be the same batch
pub record UndisclosedRecords (input records : List ℕ) (o : Batch) (input' records' : List ℕ) (p : Batch) : Type 0 where
  pub same : (k l : ℕ) (e f h : List ℕ) → SameSender e f → Sent input records o k e h → Sent input' records' p l f h
      → (header_len_at o k ≡ header_len_at p l) × (header_bytes_at o k ≡ header_bytes_at p l)
