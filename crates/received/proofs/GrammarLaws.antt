-- The rules of Received values make exactly what stands at the front of a text and is clear, so that the grammar makes exactly the values
-- that are clear.
use borrow.Author.Tests.{ne_eqb}
use Rattle.std.specs.Prelude.{◌≡◌, refl, Bool, true, false, ◌&&◌, ◌||◌, List, [], ◌∷◌, ◌++◌, ℕ, zero, suc, ◌<◌, T, eqb, length, take, drop, get_or}
use Rattle.std.proofs.Common.{ap, ◌∙◌, not-suc-le-zero, arith, eqb→eq, take-append-drop}
use Rattle.std.proofs.Math.Seq.{take-append_seam}
use Rattle.std.proofs.Math.Facts.{and_yes, eqb_no}
use Rattle.lists.specs.ListsLaws.{by_test, yes_true, true_yes, no_false}
use Rattle.encoded_word.specs.Segments.{Segment}
use Rattle.structured_token.specs.declared.Kind.{Kind}
use Rattle.structured_token.specs.declared.Kind.TheVariants as token
use Rattle.structured_token.specs.Tokens.{is_white, kind_of, size_of}
use Rattle.structured_token.specs.Tokens as tokens
use Rattle.structured_token.specs.Walk.{Front, clear_all, becoming}
use Rattle.structured_token.proofs.WalkLaws as walks
use Rattle.structured_token.proofs.ValueLaws as values
use Rattle.structured_field.proofs.GrammarLaws.{from_rule, to_rule}
use Rattle.structured_field.specs.StructuredField as field
use Rattle.received_token.specs.Clause.{white_len, is_for, clause_len}
use Rattle.received_token.specs.Grammar.{Clause}
use Rattle.received_token.proofs.GrammarLaws.{clause_taken, taken_clause, clause_word, clause_some}
use Rattle.received_token.specs.Tokens.{starts_for, kind_in, received_kind, received_size, goes_on}
use Rattle.received.specs.Received.{Place, clause_segments, clear, becomes, received_front, value_clear, value_segments}
use Rattle.received.specs.Received.Place.{place}
use Rattle.received.specs.Grammar.{ReceivedRule, ReceivedValue}
use Rattle.received.specs.FrontLaws.{begun, token_front_lem}

-- where one does
module _ (comments start : Bool) (s : List ℕ) (h : starts_for start s ≡ true) where
  clause_front : (clause_len s ≡ 0 → ⊥) → received_front (place comments start) s ≡ record { size = clause_len s; clear = true; becomes = clause_segments (take (clause_len s) s); next = place comments false }
  unfolding received_kind received_size clear becomes
  clause_front z = rw (h, ne_eqb (clause_len s) 0 z)

  bare_front : clause_len s ≡ 0 → (received_front (place comments start) s).clear ≡ false
  unfolding received_kind received_size clear
  bare_front z = rw (h, z)

-- ---- what the rules make stands at the front

first_byte : (c more : List ℕ) → 0 < length c → get_or (c ++ more) 0 0 ≡ get_or c 0 0
first_byte [] more h = absurd (not-suc-le-zero h)
first_byte (b ∷ c) more h = refl

clause_starts : {c : List ℕ} (start : Bool) (more : List ℕ) → Clause c → T (is_white (get_or c 0 0) || start) → starts_for start (c ++ more) ≡ true
unfolding starts_for
clause_starts {c} start more g w =
    let some = clause_some g in
    let size = clause_taken g more in
    let word : is_for (drop (white_len (c ++ more)) (c ++ more)) ≡ true = clause_word (c ++ more) (omega (arith, size)) in
    rw (first_byte c more some, yes_true (is_white (get_or c 0 0) || start) w, word)

rule_taken : {at after : Place} {t more : List ℕ} {p : List Segment} → ReceivedRule at t more p after → walks.Taken received_front at t more p after
rule_taken (ReceivedRule.token {comments} {start} {t = t} {more = more} r n) =
    let k = (values.exact field.clear field.becomes).taken (from_rule r) in
    record { is = token_front_lem comments start (t ++ more) (no_false (starts_for start (t ++ more)) n) ∙ ap begun k.is; some = k.some }
rule_taken (ReceivedRule.clause {comments} {start} {c} {more} g w) =
    let some = clause_some g in
    let size = clause_taken g more in
    record { is = clause_front comments start (c ++ more) (clause_starts start more g w) (λ z. not-suc-le-zero {n = 0} (omega (arith, size))) ∙ rw (size, take-append_seam c more); some = some }

-- ---- what stands at the front and is clear the rules make

first_taken : (n b : ℕ) (s : List ℕ) → 0 < n → get_or (take n (b ∷ s)) 0 0 ≡ b
first_taken zero b s h = absurd (not-suc-le-zero h)
first_taken (suc n) b s h = refl

clause_made : (comments start : Bool) (b : ℕ) (s : List ℕ) → starts_for start (b ∷ s) ≡ true → 0 < clause_len (b ∷ s)
    → ReceivedRule (place comments start) (take (clause_len (b ∷ s)) (b ∷ s)) (drop (clause_len (b ∷ s)) (b ∷ s)) (clause_segments (take (clause_len (b ∷ s)) (b ∷ s))) (place comments false)
unfolding starts_for
clause_made comments start b s h some =
    let n = clause_len (b ∷ s) in
    let before = (and_yes (is_white b || start) (is_for (drop (white_len (b ∷ s)) (b ∷ s))) (true_yes ((is_white b || start) && is_for (drop (white_len (b ∷ s)) (b ∷ s))) h)).0 in
    ReceivedRule.clause {start = start} (taken_clause (b ∷ s) some) (rw (first_taken n b s some) before)

-- a front that is clear, and what the rules make of it
abbrev Makes : Place → List ℕ → Front Place Segment → Type 0
Makes at s f = T f.clear → ReceivedRule at (take f.size s) (drop f.size s) f.becomes f.next

makes_same : (at : Place) (s : List ℕ) {f g : Front Place Segment} → f ≡ g → Makes at s g → Makes at s f
makes_same at s e m = rw e m

made_for : (comments start : Bool) (b : ℕ) (s : List ℕ) → starts_for start (b ∷ s) ≡ true → Makes (place comments start) (b ∷ s) (received_front (place comments start) (b ∷ s))
made_for comments start b s h =
    by_test (eqb (clause_len (b ∷ s)) 0)
    (λ t c. absurd (rw (bare_front comments start (b ∷ s) h (eqb→eq (clause_len (b ∷ s)) 0 t)) at c))
    (λ t.
    let z = eqb_no {a = clause_len (b ∷ s)} {b = 0} t in
    makes_same (place comments start) (b ∷ s) (clause_front comments start (b ∷ s) h z) (λ c. clause_made comments start b s h (omega (arith, z))))

made_token : (comments start : Bool) (b : ℕ) (s : List ℕ) → starts_for start (b ∷ s) ≡ false → Makes (place comments start) (b ∷ s) (received_front (place comments start) (b ∷ s))
made_token comments start b s n =
    let f = field.structured_front comments (b ∷ s) in
    makes_same (place comments start) (b ∷ s) (token_front_lem comments start (b ∷ s) n)
    (λ c. ReceivedRule.token {start = start} (to_rule ((values.exact field.clear field.becomes).made comments b s c)) (rw (take-append-drop f.size (b ∷ s), n) tt))

-- the rules make exactly what stands at the front
pub exact : walks.Exact received_front ReceivedRule
exact = record { taken = λ r. rule_taken r; made = λ at b s. made_front at b s }
  where
    made_front : (at : Place) (b : ℕ) (s : List ℕ) → Makes at (b ∷ s) (received_front at (b ∷ s))
    made_front (place comments start) b s =
        by_test (starts_for start (b ∷ s))
        (λ t. made_for comments start b s (yes_true (starts_for start (b ∷ s)) t))
        (λ t. made_token comments start b s (no_false (starts_for start (b ∷ s)) t))

-- ---- the grammar

pub record Reads (text : List ℕ) (p : List Segment) : Type 0 where
  pub clear_all_lem : T (value_clear text)
  pub is : p ≡ value_segments text

pub made_reads : {text : List ℕ} {p : List Segment} → ReceivedValue text p → Reads text p
unfolding value_clear value_segments clear_all becoming
made_reads v = let r = walks.made_reads received_front ReceivedRule exact v in record { clear_all_lem = r.clear; is = r.is }

pub reads_made : {text : List ℕ} {p : List Segment} → Reads text p → ReceivedValue text p
unfolding value_clear value_segments clear_all becoming
reads_made {text} {p} r = walks.reads_made received_front ReceivedRule exact {state = place true true} {text = text} {p = p} (record { clear = r.clear_all_lem; is = r.is })

-- what becomes of a value that is clear
pub value_made : (value : List ℕ) → T (value_clear value) → ReceivedValue value (value_segments value)
value_made value h = reads_made (record { clear_all_lem = h; is = refl })
