-- Laws of every grammar of values: what it makes is sound, and how long it can be.
use Rattle.std.specs.Prelude.{List, ◌++◌, T, length}
use Prim.Native.Nat.{ℕ, ◌*◌, ◌≤◌, zero-le}
use Rattle.std.proofs.Math.Nat.{mul-add}
use Rattle.std.proofs.Common.{arith}
use Rattle.std.proofs.Math.ListN.{length-append}
use Rattle.lists.specs.Lists.{all}
use Rattle.lists.specs.ListsLaws.{all_append}
use Rattle.utf8.specs.Utf8.{utf8}
use Rattle.encoded_word.specs.Segments.{Segment, rendered, sound}
use Rattle.encoded_word.specs.SegmentsLaws.{rendered_append}
use Rattle.structured_token.specs.Walk.{Value}

module _ {S : Type 0} (Rule : S → List ℕ → List ℕ → List Segment → S → Type 0) where
  -- what each part becomes is sound, and UTF-8 may be cut after it
  pub record RuleSound : Type 0 where
    pub part_sound : {state after : S} {part more : List ℕ} {p : List Segment} → Rule state part more p after → T (utf8 (part ++ more)) → T (all sound p) × T (utf8 more)

  pub value_sound : RuleSound → {state : S} {text : List ℕ} {p : List Segment} → Value Rule state text p → T (utf8 text) → T (all sound p)
  value_sound f Value.end u = tt
  value_sound f (Value.next {p = p} {q = q} r v) u = let both = f.part_sound r u in all_append sound p q both.0 (value_sound f v both.1)

  -- each part becomes at most k bytes for each of its own
  pub record RuleShort (k : ℕ) : Type 0 where
    pub part_short : {state after : S} {part more : List ℕ} {p : List Segment} → Rule state part more p after → length (rendered p) ≤ k * length part

  pub value_le : {k : ℕ} → RuleShort k → {state : S} {text : List ℕ} {p : List Segment} → Value Rule state text p → length (rendered p) ≤ k * length text
  unfolding rendered
  value_le f Value.end = zero-le
  value_le {k} f (Value.next {part = part} {more = more} {p = p} {q = q} r v) =
      let one = f.part_short r in
      let rest = value_le f v in
      rw (rendered_append p q, length-append (rendered p) (rendered q), length-append part more, mul-add k (length part) (length more)) (omega arith)
