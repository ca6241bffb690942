-- The batch record by record: which room each record has, where its outputs stand, and what is not touched.
use Rattle.std.specs.Prelude.{◌≡◌, List, ◌++◌, length, take, drop, get_or}
use Rattle.std.proofs.Math.Path.{refl}
use Rattle.std.proofs.Common.{sym, append_assoc, arith, not-suc-le-zero, le_of_suc-le-suc, length-append, length-take, length-drop, drop_at, drop-drop, get_or-append-add}
use Prim.Native.Nat.{ℕ, zero, suc, ◌+◌, ◌*◌, ◌/◌, ◌≤◌, ◌<◌}
use Rattle.std.proofs.Math.Seq.{take_at, drop-append-add}
use Rattle.rules.specs.declared.Rules.{Rules}
use Rattle.call.specs.Outcome.{Outcome}
use Rattle.call.proofs.BoundLaws.{Bounded}
use Rattle.batch.specs.Batch.{record_outcome, answers, Batch, batch_of, batch}
use Rattle.batch.specs.BatchLaws.{record_bounded}
use Rattle.batch.specs.BatchRecords.{from_record, total, used₁, used₂}

-- ---- lists

-- past a front of this length
front_drop : (x ys : List ℕ) (n k : ℕ) → length x ≡ n → drop (n + k) (x ++ ys) ≡ drop k ys
front_drop x ys n k e = rw e at (drop-append-add x ys k)

front_at : (x ys : List ℕ) (n k : ℕ) → length x ≡ n → get_or (x ++ ys) (n + k) 0 ≡ get_or ys k 0
front_at x ys n k e = rw e at (get_or-append-add x ys k 0)

next_record : (k : ℕ) → 9 * suc k ≡ 9 + 9 * k
next_record k = omega arith

-- ---- the record at the front, and the others

-- The record at the front of these numbers, whose outcome is o: its numbers before and afterwards, the room that is left, b and c, and what
-- stands there afterwards, b' and c'.
pub record RecordDone (o : Outcome) (before after b c b' c' : List ℕ) : Type 0 where
  pub inputs : take 4 after ≡ take 4 before
  pub number : get_or after 4 0 ≡ o.number
  pub place : get_or after 5 0 ≡ o.place
  pub offset : get_or after 6 0 ≡ o.offset
  pub envelope_len_lem : get_or after 7 0 ≡ o.envelope_len
  pub header_len_lem : get_or after 8 0 ≡ o.header_len
  pub envelope : take o.envelope_len b' ≡ take o.envelope_len o.envelope_buffer
  pub header : take o.header_len c' ≡ take o.header_len o.header_buffer
  -- every number fits 32 bits, the outputs fit the room, and a refused record takes none of it
  pub bounded : Bounded b c o

-- n records, each with the room that the ones before it left
pub record BatchDone (n : ℕ) (rules : Rules) (input records b c : List ℕ) (after : Batch) : Type 0 where
  pub each : (k : ℕ) → k < n
      → RecordDone (record_outcome rules input (from_record k records) (drop (used₁ k after) b) (drop (used₂ k after) c)) (from_record k records) (from_record k after.records) (drop (used₁ k after) b) (drop (used₂ k after) c) (drop (used₁ k after) after.envelope_buffer) (drop (used₂ k after) after.header_buffer)
  -- the numbers past the last record
  pub size : length after.records ≡ length records
  pub last_part : from_record n after.records ≡ from_record n records
  -- past the last output both buffers are as before
  pub envelope_within : used₁ n after ≤ length b
  pub header_within : used₂ n after ≤ length c
  pub envelope_size : length after.envelope_buffer ≡ length b
  pub header_size : length after.header_buffer ≡ length c
  pub envelope_past : drop (used₁ n after) after.envelope_buffer ≡ drop (used₁ n after) b
  pub header_past : drop (used₂ n after) after.header_buffer ≡ drop (used₂ n after) c

module _ (rules : Rules) (input records b c : List ℕ) (k : 9 ≤ length records) where
  abbrev o : Outcome
  o = record_outcome rules input records b c

  bounded : Bounded b c o
  bounded = record_bounded rules input records b c

  four : length (take 4 records) ≡ 4
  four = rw (length-take 4 records) (omega arith)

  output₁ : length (take o.envelope_len o.envelope_buffer) ≡ o.envelope_len
  output₁ = rw (length-take o.envelope_len o.envelope_buffer) (omega (arith, bounded.room₁, bounded.size₁))

  output₂ : length (take o.header_len o.header_buffer) ≡ o.header_len
  output₂ = rw (length-take o.header_len o.header_buffer) (omega (arith, bounded.room₂, bounded.size₂))

  -- afterwards, with what comes of the other records
  module _ (rest : Batch) where
    abbrev numbers : List ℕ
    numbers = take 4 records ++ (answers o ++ rest.records)

    nine : length (take 4 records ++ answers o) ≡ 9
    unfolding answers
    nine = rw (length-append (take 4 records) (answers o), four) refl

    joined : numbers ≡ (take 4 records ++ answers o) ++ rest.records
    joined = sym (append_assoc (take 4 records) (answers o) rest.records)

    at_answer : (j : ℕ) → get_or numbers (4 + j) 0 ≡ get_or (answers o ++ rest.records) j 0
    at_answer j = front_at (take 4 records) (answers o ++ rest.records) 4 j four

    first_done : RecordDone o records numbers b c (take o.envelope_len o.envelope_buffer ++ rest.envelope_buffer) (take o.header_len o.header_buffer ++ rest.header_buffer)
    unfolding answers
    first_done = record {
      inputs = take_at (take 4 records) (answers o ++ rest.records) 4 four;
      number = at_answer 0;
      place = at_answer 1;
      offset = at_answer 2;
      envelope_len_lem = at_answer 3;
      header_len_lem = at_answer 4;
      envelope = take_at (take o.envelope_len o.envelope_buffer) rest.envelope_buffer o.envelope_len output₁;
      header = take_at (take o.header_len o.header_buffer) rest.header_buffer o.header_len output₂;
      bounded = bounded;
    }

    -- the numbers from the next record on, and what its predecessors used
    numbers_next : (i : ℕ) → from_record (suc i) numbers ≡ from_record i rest.records
    numbers_next i = rw (next_record i, joined) (front_drop (take 4 records ++ answers o) rest.records 9 (9 * i) nine)

    records_next : (i : ℕ) → from_record (suc i) records ≡ from_record i (drop 9 records)
    records_next i = rw (next_record i) (sym (drop-drop (9 * i) 9 records))

    rest_numbers : drop 9 numbers ≡ rest.records
    rest_numbers = rw joined (drop_at (take 4 records ++ answers o) rest.records 9 nine)

    total_next₁ : (i : ℕ) → total 7 (suc i) numbers ≡ o.envelope_len + total 7 i rest.records
    unfolding total answers
    total_next₁ i = rw (rest_numbers, at_answer 3)

    total_next₂ : (i : ℕ) → total 8 (suc i) numbers ≡ o.header_len + total 8 i rest.records
    unfolding total answers
    total_next₂ i = rw (rest_numbers, at_answer 4)

    -- the room of the others, and what stands there
    room_next₁ : (n : ℕ) → drop (o.envelope_len + n) b ≡ drop n (drop o.envelope_len o.envelope_buffer)
    room_next₁ n = rw bounded.past₁ (sym (drop-drop n o.envelope_len b))

    room_next₂ : (n : ℕ) → drop (o.header_len + n) c ≡ drop n (drop o.header_len o.header_buffer)
    room_next₂ n = rw bounded.past₂ (sym (drop-drop n o.header_len c))

    left_next₁ : (n : ℕ) → drop (o.envelope_len + n) (take o.envelope_len o.envelope_buffer ++ rest.envelope_buffer) ≡ drop n rest.envelope_buffer
    left_next₁ n = front_drop (take o.envelope_len o.envelope_buffer) rest.envelope_buffer o.envelope_len n output₁

    left_next₂ : (n : ℕ) → drop (o.header_len + n) (take o.header_len o.header_buffer ++ rest.header_buffer) ≡ drop n rest.header_buffer
    left_next₂ n = front_drop (take o.header_len o.header_buffer) rest.header_buffer o.header_len n output₂

    -- where the other n records are done, all are
    module _ (n : ℕ) (d : BatchDone n rules input (drop 9 records) (drop o.envelope_len o.envelope_buffer) (drop o.header_len o.header_buffer) rest) where
      abbrev whole : Batch
      whole = record {
        records = numbers;
        envelope_buffer = take o.envelope_len o.envelope_buffer ++ rest.envelope_buffer;
        header_buffer = take o.header_len o.header_buffer ++ rest.header_buffer;
      }

      abbrev Done : ℕ → Type 0
      Done i =
          RecordDone (record_outcome rules input (from_record i records) (drop (used₁ i whole) b) (drop (used₂ i whole) c)) (from_record i records) (from_record i numbers) (drop (used₁ i whole) b) (drop (used₂ i whole) c)
          (drop (used₁ i whole) whole.envelope_buffer)
          (drop (used₂ i whole) whole.header_buffer)

      next_done : (i : ℕ) → i < n → Done (suc i)
      next_done i h =
          let t₁ = total 7 i rest.records in
          let t₂ = total 8 i rest.records in
          rw (records_next i, numbers_next i, total_next₁ i, total_next₂ i, room_next₁ t₁, room_next₂ t₂, left_next₁ t₁, left_next₂ t₂) (d.each i h)

      each_done : (i : ℕ) → i < suc n → Done i
      unfolding total
      each_done zero h = first_done
      each_done (suc i) h = next_done i (le_of_suc-le-suc h)

      all_done : BatchDone (suc n) rules input records b c whole
      all_done = record {
        each = each_done;
        size = rw (joined, length-append (take 4 records ++ answers o) rest.records, nine, d.size, length-drop 9 records) (omega arith);
        last_part = rw (numbers_next n, records_next n) d.last_part;
        envelope_size =
            rw (length-append (take o.envelope_len o.envelope_buffer) rest.envelope_buffer, output₁, d.envelope_size, length-drop o.envelope_len o.envelope_buffer)
            (omega (arith, bounded.room₁, bounded.size₁));
        header_size =
            rw (length-append (take o.header_len o.header_buffer) rest.header_buffer, output₂, d.header_size, length-drop o.header_len o.header_buffer)
            (omega (arith, bounded.room₂, bounded.size₂));
        envelope_past = let t = total 7 n rest.records in rw (total_next₁ n, left_next₁ t, room_next₁ t) d.envelope_past;
        header_past = let t = total 8 n rest.records in rw (total_next₂ n, left_next₂ t, room_next₂ t) d.header_past;
        envelope_within = rw (total_next₁ n) (omega (arith, d.envelope_within, length-drop o.envelope_len o.envelope_buffer, bounded.room₁, bounded.size₁));
        header_within = rw (total_next₂ n) (omega (arith, d.header_within, length-drop o.header_len o.header_buffer, bounded.room₂, bounded.size₂));
      }

-- ---- all records

done_of : (n : ℕ) (rules : Rules) (input records b c : List ℕ) → 9 * n ≤ length records → BatchDone n rules input records b c (batch_of n rules input records b c)
unfolding batch_of total
done_of zero rules input records b c k = record {
  each = λ i h. absurd (not-suc-le-zero h);
  size = refl;
  last_part = refl;
  envelope_size = refl;
  header_size = refl;
  envelope_past = refl;
  header_past = refl;
  envelope_within = omega arith;
  header_within = omega arith;
}
done_of (suc n) rules input records b c k =
    let o = record_outcome rules input records b c in
    all_done rules input records b c (omega arith) _ n
    (done_of n rules input (drop 9 records) (drop o.envelope_len o.envelope_buffer) (drop o.header_len o.header_buffer) (rw (length-drop 9 records) (omega arith)))

-- Of every batch.
pub batch_done : (rules : Rules) (input records b c : List ℕ) → BatchDone (length records / 9) rules input records b c (batch rules input records b c)
unfolding batch
batch_done rules input records b c = done_of (length records / 9) rules input records b c (omega arith)
