-- The demands on a batch hold of `batch`, and leave nothing open: what meets them is `batch`.
use Rattle.std.specs.Prelude.{◌≡◌, List, [], ◌∷◌, ℕ, ◌+◌, ◌≤◌, ◌<◌, length, take, drop}
use Rattle.std.proofs.Common.{sym, ◌∙◌, ⊎_elim, arith}
use Rattle.std.proofs.Math.Logic.◌⊎◌.{inl, inr}
use Rattle.rules.specs.declared.Rules.{Rules}
use Rattle.call.specs.Outcome.{outcome}
use Rattle.batch.specs.Batch.{range, range_refused, range_outcome, record_outcome, answers, Batch, batch, afterwards}
use Rattle.batch.specs.BatchLaws.{by_range, after, fronted, batch_step, batch_end}
use Rattle.demands.proofs.DemandsLaws.{demands}
use Rattle.demands.proofs.DeterminedLaws.{determined}
use Rattle.demands.specs.BatchDemands.{BatchDemands}
use Rattle.demands.specs.BatchDemands.BatchDemands.{last_part, past_end, single}

-- a batch by its first record
by_first_record : (rules : Rules) (input : List ℕ) (start₁ len₁ start₂ len₂ v w x y z : ℕ) (more b c : List ℕ)
    → batch rules input (start₁ ∷ len₁ ∷ start₂ ∷ len₂ ∷ v ∷ w ∷ x ∷ y ∷ z ∷ more) b c ≡ fronted rules input (start₁ ∷ len₁ ∷ start₂ ∷ len₂ ∷ v ∷ w ∷ x ∷ y ∷ z ∷ more) (range_outcome rules input start₁ len₁ start₂ len₂ b c)
unfolding record_outcome
by_first_record rules input start₁ len₁ start₂ len₂ v w x y z more b c = batch_step rules input (start₁ ∷ len₁ ∷ start₂ ∷ len₂ ∷ v ∷ w ∷ x ∷ y ∷ z ∷ more) b c (omega arith)

abbrev Demanded : Rules → List ℕ → List ℕ → List ℕ → List ℕ → Batch → Type 0
Demanded rules input records b c after = BatchDemands rules input records b c after.records after.envelope_buffer after.header_buffer

none_left : (rules : Rules) (input records b c : List ℕ) → length records < 9 → Demanded rules input records b c (batch rules input records b c)
none_left rules input records b c k = rw (batch_end rules input records b c k) (last_part {records = records} (omega arith))

-- Every batch meets the demands.
pub batch_demands : (rules : Rules) (input records b c : List ℕ) → Demanded rules input records b c (batch rules input records b c)
unfolding after fronted answers range range_refused
batch_demands rules input [] b c = none_left rules input [] b c (omega arith)
batch_demands rules input (s ∷ []) b c = none_left rules input (s ∷ []) b c (omega arith)
batch_demands rules input (s ∷ l ∷ []) b c = none_left rules input (s ∷ l ∷ []) b c (omega arith)
batch_demands rules input (s ∷ l ∷ t ∷ []) b c = none_left rules input (s ∷ l ∷ t ∷ []) b c (omega arith)
batch_demands rules input (s ∷ l ∷ t ∷ m ∷ []) b c = none_left rules input (s ∷ l ∷ t ∷ m ∷ []) b c (omega arith)
batch_demands rules input (s ∷ l ∷ t ∷ m ∷ v ∷ []) b c = none_left rules input (s ∷ l ∷ t ∷ m ∷ v ∷ []) b c (omega arith)
batch_demands rules input (s ∷ l ∷ t ∷ m ∷ v ∷ w ∷ []) b c = none_left rules input (s ∷ l ∷ t ∷ m ∷ v ∷ w ∷ []) b c (omega arith)
batch_demands rules input (s ∷ l ∷ t ∷ m ∷ v ∷ w ∷ x ∷ []) b c = none_left rules input (s ∷ l ∷ t ∷ m ∷ v ∷ w ∷ x ∷ []) b c (omega arith)
batch_demands rules input (s ∷ l ∷ t ∷ m ∷ v ∷ w ∷ x ∷ y ∷ []) b c = none_left rules input (s ∷ l ∷ t ∷ m ∷ v ∷ w ∷ x ∷ y ∷ []) b c (omega arith)
batch_demands rules input (s ∷ l ∷ t ∷ m ∷ v ∷ w ∷ x ∷ y ∷ z ∷ more) b c =
    let first = by_first_record rules input s l t m v w x y z more b c in
    by_range rules input s l t m b c
    (λ k q. rw (first, q) (past_end {start₁ = s} {len₁ = l} {start₂ = t} {len₂ = m} (inl (omega arith)) (batch_demands rules input more b c)))
    (λ k q. rw (first, q) (past_end {start₁ = s} {len₁ = l} {start₂ = t} {len₂ = m} (inr (omega arith)) (batch_demands rules input more b c)))
    (λ k n q.
    let o = outcome rules (take l (drop s input)) (take m (drop t input)) b c in
    rw (first, q)
    (single k n (demands rules (take l (drop s input)) (take m (drop t input)) b c)
    (batch_demands rules input more (drop o.envelope_len o.envelope_buffer) (drop o.header_len o.header_buffer))))

-- the outcome of a record by its two ranges
module _ (rules : Rules) (input : List ℕ) (start₁ len₁ start₂ len₂ : ℕ) (b c : List ℕ) where
  outside : (start₁ + len₁ ≤ length input → start₂ + len₂ ≤ length input → ⊥) → range_outcome rules input start₁ len₁ start₂ len₂ b c ≡ range_refused b c
  outside not_both = by_range rules input start₁ len₁ start₂ len₂ b c (λ k q. q) (λ k q. q) (λ k l q. absurd (not_both k l))

  inside : start₁ + len₁ ≤ length input → start₂ + len₂ ≤ length input
      → range_outcome rules input start₁ len₁ start₂ len₂ b c ≡ outcome rules (take len₁ (drop start₁ input)) (take len₂ (drop start₂ input)) b c
  unfolding range
  inside k l = by_range rules input start₁ len₁ start₂ len₂ b c (λ m q. absurd (omega arith)) (λ m q. absurd (omega arith)) (λ m n q. q)

-- What meets them is the batch.
pub batch_determined : (rules : Rules) (input : List ℕ) {records b c records' b' c' : List ℕ} → BatchDemands rules input records b c records' b' c'
    → afterwards records' b' c' ≡ batch rules input records b c
unfolding after fronted answers range_refused
batch_determined rules input (last_part {records} {b} {c} k) = sym (batch_end rules input records b c (omega arith))
batch_determined rules input (past_end {start₁} {len₁} {start₂} {len₂} {v} {w} {x} {y} {z} {more} {b} {c} past d) =
    let not_both : start₁ + len₁ ≤ length input → start₂ + len₂ ≤ length input → ⊥ = λ k l. ⊎_elim (λ m. omega arith) (λ m. omega arith) past in
    sym (rw (by_first_record rules input start₁ len₁ start₂ len₂ v w x y z more b c, outside rules input start₁ len₁ start₂ len₂ b c not_both, ← batch_determined rules input d))
batch_determined rules input (single {start₁} {len₁} {start₂} {len₂} {v} {w} {x} {y} {z} {more} {b} {c} {b₁} {c₁} {more'} {b'} {c'} {r} k l one d) =
    let is = determined rules (take len₁ (drop start₁ input)) (take len₂ (drop start₂ input)) b c r b₁ c₁ one in
    sym (rw (by_first_record rules input start₁ len₁ start₂ len₂ v w x y z more b c, inside rules input start₁ len₁ start₂ len₂ b c k l, ← is, ← batch_determined rules input d))

-- So two that meet them for one call are equal.
pub batch_unique : (rules : Rules) (input records b c : List ℕ) {records₁ b₁ c₁ records₂ b₂ c₂ : List ℕ} → BatchDemands rules input records b c records₁ b₁ c₁
    → BatchDemands rules input records b c records₂ b₂ c₂ → afterwards records₁ b₁ c₁ ≡ afterwards records₂ b₂ c₂
batch_unique rules input records b c d e = batch_determined rules input d ∙ sym (batch_determined rules input e)

-- What equals the batch meets them.
pub batch_met : {rules : Rules} {input records b c : List ℕ} {after : Batch} → after ≡ batch rules input records b c → Demanded rules input records b c after
batch_met {rules} {input} {records} {b} {c} q = rw q (batch_demands rules input records b c)
