-- Laws of a batch: a record, and records one after another.
use Rattle.std.specs.Prelude.{◌≡◌, refl, Bool, true, false, ◌||◌, ℕ, suc, ◌+◌, ◌-◌, ◌/◌, ◌≤◌, ◌<◌, length, take, drop, get_or, ltb}
use Rattle.std.proofs.Math.Path.{sym, ap}
use Rattle.std.proofs.Common.{◌∙◌, arith, length-append, length-take, length-drop, drop_of_length-le, take_all, take_at, drop_at}
use mathlib.Core.List.{List, [], ◌∷◌, ◌++◌, append_assoc, append-nil}
use Rattle.std.proofs.Math.ListN.{take-append-drop}
use Rattle.std.proofs.lemmas.List.Edits.{sets}
use Rattle.std.proofs.Math.Seq.{sets-eq, take-append-add, drop-append-add}
use Rattle.std.proofs.Math.Facts.{ltb_yes, ltb_no}
use Rattle.lists.specs.ListsLaws.{by_test, cond_has, yes_true, no_false}
use Rattle.rules.specs.declared.Rules.{Rules}
use Rattle.call.specs.declared.Answer.{Answer}
use Rattle.call.specs.Outcome.{Outcome, outcome, observed}
use Rattle.call.specs.BoundLaws.{greatest32}
use Rattle.call.proofs.BoundLaws.{Bounded, outcome_bounded, refused_bounded}
use Rattle.batch.specs.Batch.{past_end, range, range_refused, range_outcome, record_outcome, answers, Batch, batch_of, batch, afterwards}

-- ---- a record

-- a range, as code lends it
pub range_part : (input : List ℕ) (start len : ℕ) {part : List ℕ} → part ≡ take (start + len - start) (drop start input) → part ≡ range input start len
unfolding range
range_part input start len e = let k : start + len - start ≡ len = omega arith in rw k at e

-- the call, or 9, by what code knows of both ranges
module _ (rules : Rules) (input : List ℕ) (start₁ len₁ start₂ len₂ : ℕ) (b c : List ℕ) {p q : Bool} (past₁ : p ≡ past_end input start₁ len₁) (past₂ : q ≡ past_end input start₂ len₂) where
  pub out_of_range : p || q ≡ true → range_refused b c ≡ range_outcome rules input start₁ len₁ start₂ len₂ b c
  unfolding range_outcome
  out_of_range t = rw (← past₁, ← past₂, t)

  pub in_range : p || q ≡ false → {e h : List ℕ} → e ≡ range input start₁ len₁ → h ≡ range input start₂ len₂ → {o : Outcome} → o ≡ outcome rules e h b c
      → o ≡ range_outcome rules input start₁ len₁ start₂ len₂ b c
  unfolding range_outcome
  in_range t x y z = rw (← past₁, ← past₂, t, ← x, ← y) z

-- by cases on both ranges
pub by_range : {X : Type 0} (rules : Rules) (input : List ℕ) (start₁ len₁ start₂ len₂ : ℕ) (b c : List ℕ)
    → (length input < start₁ + len₁ → range_outcome rules input start₁ len₁ start₂ len₂ b c ≡ range_refused b c → X)
    → (length input < start₂ + len₂ → range_outcome rules input start₁ len₁ start₂ len₂ b c ≡ range_refused b c → X)
    → (start₁ + len₁ ≤ length input → start₂ + len₂ ≤ length input
    → range_outcome rules input start₁ len₁ start₂ len₂ b c ≡ outcome rules (range input start₁ len₁) (range input start₂ len₂) b c → X)
    → X
unfolding past_end range_outcome
by_range rules input start₁ len₁ start₂ len₂ b c f g h =
    by_test (ltb (length input) (start₁ + len₁))
    (λ t. f (ltb_yes {a = length input} {b = start₁ + len₁} t) (rw (yes_true (ltb (length input) (start₁ + len₁)) t)))
    (λ t.
    by_test (ltb (length input) (start₂ + len₂))
    (λ u.
    g (ltb_yes {a = length input} {b = start₂ + len₂} u)
    (rw (no_false (ltb (length input) (start₁ + len₁)) t, yes_true (ltb (length input) (start₂ + len₂)) u)))
    (λ u.
    h (ltb_no {a = length input} {b = start₁ + len₁} t) (ltb_no {a = length input} {b = start₂ + len₂} u)
    (rw (no_false (ltb (length input) (start₁ + len₁)) t, no_false (ltb (length input) (start₂ + len₂)) u))))

pub range_bounded : (rules : Rules) (input : List ℕ) (start₁ len₁ start₂ len₂ : ℕ) (b c : List ℕ) → Bounded b c (range_outcome rules input start₁ len₁ start₂ len₂ b c)
unfolding range_outcome range_refused
range_bounded rules input start₁ len₁ start₂ len₂ b c =
    cond_has (Bounded b c) (past_end input start₁ len₁ || past_end input start₂ len₂) (range_refused b c) (outcome rules (range input start₁ len₁) (range input start₂ len₂) b c)
    (λ t. refused_bounded 9 0 0 0 b c (omega arith) (omega arith) (omega arith))
    (λ t. outcome_bounded rules (range input start₁ len₁) (range input start₂ len₂) b c)

pub record_bounded : (rules : Rules) (input records b c : List ℕ) → Bounded b c (record_outcome rules input records b c)
unfolding record_outcome
record_bounded rules input records b c = range_bounded rules input (get_or records 0 0) (get_or records 1 0) (get_or records 2 0) (get_or records 3 0) b c

-- nine numbers or more, of which the first record is filled with an answer that fits 32 bits
pub record Fits (numbers : List ℕ) (answer : Answer) : Type 0 where
  pub whole : 9 ≤ length numbers
  pub place : answer.place ≤ greatest32
  pub offset : answer.offset ≤ greatest32
  pub envelope_len_lem : answer.envelope_len ≤ greatest32
  pub header_len_lem : answer.header_len ≤ greatest32

-- an answer's five numbers
abbrev pub five : Answer → List ℕ
five answer = answer.number ∷ answer.place ∷ answer.offset ∷ answer.envelope_len ∷ answer.header_len ∷ []

-- what is done for the record at the front
pub record Recorded (rules : Rules) (input before after b b' c c' : List ℕ) (answer : Answer) : Type 0 where
  pub whole : 9 ≤ length before
  pub outcome : observed answer b' c' ≡ record_outcome rules input before b c
  pub numbers : after ≡ take 4 before ++ (five answer ++ drop 9 before)

module _ (rules : Rules) (input before b c : List ℕ) {answer : Answer} {b' c' : List ℕ} (k : 9 ≤ length before)
    (q : observed answer b' c' ≡ range_outcome rules input (get_or before 0 0) (get_or before 1 0) (get_or before 2 0) (get_or before 3 0) b c) where
  pub fits : Fits before answer
  fits =
      let f : Bounded b c (observed answer b' c') = rw q (range_bounded rules input (get_or before 0 0) (get_or before 1 0) (get_or before 2 0) (get_or before 3 0) b c) in
      record { whole = k; place = f.place; offset = f.offset; envelope_len_lem = f.envelope_len_lem; header_len_lem = f.header_len_lem }

  pub recorded : {after : List ℕ} → after ≡ sets before 4 (five answer) → Recorded rules input before after b b' c c' answer
  unfolding record_outcome
  recorded e = record { whole = k; outcome = q; numbers = e ∙ sets-eq (five answer) before 4 k ∙ append_assoc (take 4 before) (five answer) (drop 9 before) }

-- ---- record after record

-- what stands before the records that are left, and before the room that is left
unfoldable pub after : List ℕ → List ℕ → List ℕ → Batch → Batch
after x y z rest = record { records = x ++ rest.records; envelope_buffer = y ++ rest.envelope_buffer; header_buffer = z ++ rest.header_buffer }

after_after : (x y z x' y' z' : List ℕ) (rest : Batch) → after x y z (after x' y' z' rest) ≡ after (x ++ x') (y ++ y') (z ++ z') rest
unfolding after
after_after x y z x' y' z' rest = rw (append_assoc x x' rest.records, append_assoc y y' rest.envelope_buffer, append_assoc z z' rest.header_buffer)

-- a record with this outcome, and what comes of the others
unfoldable pub fronted : Rules → List ℕ → List ℕ → Outcome → Batch
fronted rules input records o =
    after (take 4 records ++ answers o) (take o.envelope_len o.envelope_buffer) (take o.header_len o.header_buffer)
    (batch rules input (drop 9 records) (drop o.envelope_len o.envelope_buffer) (drop o.header_len o.header_buffer))

pub batch_step : (rules : Rules) (input records b c : List ℕ) → 9 ≤ length records
    → batch rules input records b c ≡ fronted rules input records (record_outcome rules input records b c)
unfolding batch batch_of after fronted
batch_step rules input records b c k =
    let e : length records / 9 ≡ suc (length (drop 9 records) / 9) = rw (length-drop 9 records) (omega arith) in
    rw (e, append_assoc (take 4 records) (answers (record_outcome rules input records b c)))

pub batch_end : (rules : Rules) (input records b c : List ℕ) → length records < 9 → batch rules input records b c ≡ afterwards records b c
unfolding batch batch_of
batch_end rules input records b c k = let e : length records / 9 ≡ 0 = omega arith in rw e

-- Where the loop stands: so many numbers are done, and so many bytes of the buffers are written.
pub record Going (rules : Rules) (input records₀ b₀ c₀ records b c : List ℕ) (at n m : ℕ) : Type 0 where
  pub at_in : at ≤ length records
  pub n_in : n ≤ length b
  pub m_in : m ≤ length c
  pub records_size : length records ≡ length records₀
  pub b_size : length b ≡ length b₀
  pub c_size : length c ≡ length c₀
  pub same : batch rules input records₀ b₀ c₀ ≡ after (take at records) (take n b) (take m c) (batch rules input (drop at records) (drop n b) (drop m c))

pub going_start : (rules : Rules) (input records b c : List ℕ) → Going rules input records b c records b c 0 0 0
unfolding after
going_start rules input records b c =
    record { at_in = omega arith; n_in = omega arith; m_in = omega arith; records_size = refl; b_size = refl; c_size = refl; same = refl }

-- the rest of a list, as it is lent and given back
module _ (xs : List ℕ) (a : ℕ) where
  rest_le : length (drop a xs) ≤ length xs - a
  rest_le = rw (length-drop a xs) (omega arith)

  lent : take (length xs - a) (drop a xs) ≡ drop a xs
  lent = take_all (length xs - a) (drop a xs) rest_le

  given_back : (ys : List ℕ) → take a xs ++ (ys ++ drop (length xs - a) (drop a xs)) ≡ take a xs ++ ys
  given_back ys = rw (drop_of_length-le (drop a xs) {i = length xs - a} rest_le, append-nil)

  module _ (k : a ≤ length xs) (ys : List ℕ) where
    front_size : length (take a xs) ≡ a
    front_size = rw (length-take a xs) (omega arith)

    front_take : (n : ℕ) → take (a + n) (take a xs ++ ys) ≡ take a xs ++ take n ys
    front_take n = rw front_size at (take-append-add (take a xs) ys n)

    front_drop : (n : ℕ) → drop (a + n) (take a xs ++ ys) ≡ drop n ys
    front_drop n = rw front_size at (drop-append-add (take a xs) ys n)

    front_length : length ys ≡ length (drop a xs) → length (take a xs ++ ys) ≡ length xs
    front_length e = rw (length-append (take a xs) ys, front_size, e, length-drop a xs) (omega arith)

module _ {rules : Rules} {input records₀ b₀ c₀ records b c : List ℕ} {at n m : ℕ} (g : Going rules input records₀ b₀ c₀ records b c at n m) where
  pub going_end : length records - at < 9 → afterwards records b c ≡ batch rules input records₀ b₀ c₀
  unfolding after
  going_end k =
      let last = batch_end rules input (drop at records) (drop n b) (drop m c) (rw (length-drop at records) k) in
      sym (g.same ∙ rw (last, take-append-drop at records, take-append-drop n b, take-append-drop m c))

  module _ {numbers b' c' : List ℕ} {answer : Answer}
      (lent_record : Recorded rules input (take (length records - at) (drop at records)) numbers (take (length b - n) (drop n b)) b' (take (length c - m) (drop m c)) c' answer) where
    r : Recorded rules input (drop at records) numbers (drop n b) b' (drop m c) c' answer
    r = rw (lent records at, lent b n, lent c m) at lent_record

    bounded : Bounded (drop n b) (drop m c) (observed answer b' c')
    bounded = rw r.outcome (record_bounded rules input (drop at records) (drop n b) (drop m c))

    -- the record's nine numbers, and those after it
    nine : length (take 4 (drop at records) ++ five answer) ≡ 9
    nine = rw (length-append (take 4 (drop at records)) (five answer), length-take 4 (drop at records)) (omega (arith, r.whole))

    numbers_are : numbers ≡ (take 4 (drop at records) ++ five answer) ++ drop 9 (drop at records)
    numbers_are = r.numbers ∙ sym (append_assoc (take 4 (drop at records)) (five answer) (drop 9 (drop at records)))

    numbers_done : take 9 numbers ≡ take 4 (drop at records) ++ five answer
    numbers_done = rw numbers_are (take_at (take 4 (drop at records) ++ five answer) (drop 9 (drop at records)) 9 nine)

    numbers_left : drop 9 numbers ≡ drop 9 (drop at records)
    numbers_left = rw numbers_are (drop_at (take 4 (drop at records) ++ five answer) (drop 9 (drop at records)) 9 nine)

    numbers_size : length numbers ≡ length (drop at records)
    numbers_size =
        rw (numbers_are, length-append (take 4 (drop at records) ++ five answer) (drop 9 (drop at records)), nine, length-drop 9 (drop at records)) (omega (arith, r.whole))

    step : batch rules input (drop at records) (drop n b) (drop m c) ≡ fronted rules input (drop at records) (observed answer b' c')
    step = batch_step rules input (drop at records) (drop n b) (drop m c) r.whole ∙ ap (fronted rules input (drop at records)) (sym r.outcome)

    done : batch rules input records₀ b₀ c₀
        ≡ after (take at records ++ take 9 numbers) (take n b ++ take answer.envelope_len b') (take m c ++ take answer.header_len c')
        (batch rules input (drop 9 numbers) (drop answer.envelope_len b') (drop answer.header_len c'))
    unfolding fronted answers
    done =
        g.same
        ∙ ap (after (take at records) (take n b) (take m c)) step
        ∙ rw (numbers_done, numbers_left)
        (after_after (take at records) (take n b) (take m c) (take 4 (drop at records) ++ five answer) (take answer.envelope_len b') (take answer.header_len c') _)

    next : Going rules input records₀ b₀ c₀ (take at records ++ numbers) (take n b ++ b') (take m c ++ c') (at + 9) (n + answer.envelope_len) (m + answer.header_len)
    next =
        let size₀ = front_length records at g.at_in numbers numbers_size in
        let size₁ = front_length b n g.n_in b' bounded.size₁ in
        let size₂ = front_length c m g.m_in c' bounded.size₂ in
        record {
          at_in = omega (arith, r.whole, length-drop at records);
          n_in = omega (arith, bounded.room₁, length-drop n b, g.n_in);
          m_in = omega (arith, bounded.room₂, length-drop m c, g.m_in);
          records_size = size₀ ∙ g.records_size;
          b_size = size₁ ∙ g.b_size;
          c_size = size₂ ∙ g.c_size;
          same = rw (
            front_take records at g.at_in numbers 9,
            front_drop records at g.at_in numbers 9,
            front_take b n g.n_in b' answer.envelope_len,
            front_drop b n g.n_in b' answer.envelope_len,
            front_take c m g.m_in c' answer.header_len,
            front_drop c m g.m_in c' answer.header_len,
          ) done;
        }

    -- as the borrow checker gives the three rests back
    pub going_next : Going rules input records₀ b₀ c₀
        (take at records ++ (numbers ++ drop (length records - at) (drop at records)))
        (take n b ++ (b' ++ drop (length b - n) (drop n b)))
        (take m c ++ (c' ++ drop (length c - m) (drop m c)))
        (at + 9) (n + answer.envelope_len) (m + answer.header_len)
    going_next = rw (given_back records at numbers, given_back b n b', given_back c m c') next

    pub room_left : (n + answer.envelope_len ≤ length b) × (m + answer.header_len ≤ length c)
    room_left = (omega (arith, bounded.room₁, length-drop n b, g.n_in), omega (arith, bounded.room₂, length-drop m c, g.m_in))
