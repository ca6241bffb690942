-- The demands on a batch: what becomes of its records, one after another, and of both buffers, by the demands on a single call.
-- BatchDemandsLaws.antt proves that they hold of `batch`, which the exported call's contract equates with what it leaves, and that nothing else
-- meets them.
use Rattle.std.specs.Prelude.{◌⊎◌, List, ◌∷◌, ◌++◌, ℕ, ◌+◌, ◌≤◌, ◌<◌, length, take, drop}
use Rattle.rules.specs.declared.Rules.{Rules}
use Rattle.call.specs.declared.Answer.{Answer}
use Rattle.demands.specs.Demands.{Demands}

-- The records, the envelope buffer and the header buffer before, then the same three afterwards; of the buffers the room that is left. A record
-- is "start and length of the envelope, then of the header, in one input buffer, then five we fill: number, place, offset and the two output
-- lengths", which held any numbers, v to z, before. "Input numbers and a last part of fewer than nine are not touched."
pub data BatchDemands (rules : Rules) (input : List ℕ) : List ℕ → List ℕ → List ℕ → List ℕ → List ℕ → List ℕ → Type 0 where
  -- past the last output both buffers are as before
  last_part : {records b c : List ℕ} → length records < 9 → BatchDemands rules input records b c records b c
  -- "Refusals: 9 (demand 1 gains it), a start plus its length past the end of the input buffer, before all others, place, offset and lengths 0."
  -- "a refused record takes no room and does not stop those after it": its room is that of those after it
  past_end : {start₁ len₁ start₂ len₂ v w x y z : ℕ} {more b c more' b' c' : List ℕ} → (length input < start₁ + len₁) ⊎ (length input < start₂ + len₂)
      → BatchDemands rules input more b c more' b' c'
      → BatchDemands rules input (start₁ ∷ len₁ ∷ start₂ ∷ len₂ ∷ v ∷ w ∷ x ∷ y ∷ z ∷ more) b c (start₁ ∷ len₁ ∷ start₂ ∷ len₂ ∷ 9 ∷ 0 ∷ 0 ∷ 0 ∷ 0 ∷ more') b' c'
  -- "Each record's answer and bytes equal those of a single call given the room that is left", which answers r and leaves b₁ and c₁. "Outputs go one
  -- after another into the two buffers": a record's output is the front of its room as far as the length that it answers, 0 where it is refused,
  -- and the room of those after it lies past that.
  single : {start₁ len₁ start₂ len₂ v w x y z : ℕ} {more b c b₁ c₁ more' b' c' : List ℕ} {r : Answer} → start₁ + len₁ ≤ length input → start₂ + len₂ ≤ length input
      → Demands rules (take len₁ (drop start₁ input)) (take len₂ (drop start₂ input)) b c r b₁ c₁
      → BatchDemands rules input more (drop r.envelope_len b₁) (drop r.header_len c₁) more' b' c'
      → BatchDemands rules input (start₁ ∷ len₁ ∷ start₂ ∷ len₂ ∷ v ∷ w ∷ x ∷ y ∷ z ∷ more) b c
      (start₁ ∷ len₁ ∷ start₂ ∷ len₂ ∷ r.number ∷ r.place ∷ r.offset ∷ r.envelope_len ∷ r.header_len ∷ more')
      (take r.envelope_len b₁ ++ b')
      (take r.header_len c₁ ++ c')
