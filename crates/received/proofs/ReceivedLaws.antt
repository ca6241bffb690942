-- Laws of what a Received field becomes: where it passes it is sound, and how long it can be.
use Rattle.std.specs.Prelude.{◌≡◌, true, List, [], ◌∷◌, ◌++◌, ℕ, suc, ◌+◌, ◌-◌, ◌*◌, ◌≤◌, ◌<◌, T, length, take, drop, get_or}
use Rattle.std.proofs.Common.{ap, ◌∙◌, append-nil, append_assoc, arith, lt→ltb, drop_of_length-le}
use Rattle.std.proofs.Math.Seq.{split_at}
use Rattle.std.proofs.Math.Facts.{and_yes, yes_and}
use Rattle.lists.specs.Byte.{is_ascii}
use Rattle.lists.specs.Lists.{all}
use Rattle.lists.specs.ListsLaws.{cond_has}
use Rattle.utf8.specs.Utf8.{utf8}
use Rattle.utf8.specs.Utf8Laws.{utf8_ascii, utf8_right, utf8_append, utf8_cut}
use Rattle.encoded_word.specs.Segments.{Segment, rendered, sound}
use Rattle.encoded_word.specs.Segments.Segment.{raw}
use Rattle.field.proofs.FieldLaws.{named_sound, length_named}
use Rattle.structured_field.proofs.StructuredFieldLaws as field
use Rattle.structured_field.proofs.ValueLaws.{RuleSound, value_sound, RuleShort, value_le}
use Rattle.received_token.specs.Clause.{clause_len}
use Rattle.received_token.proofs.ClauseLaws.{clause_last}
use Rattle.received_token.specs.Grammar.{Clause}
use Rattle.received_token.proofs.GrammarLaws.{clause_taken, clause_some}
use Rattle.received.specs.Grammar.{ReceivedRule}
use Rattle.received.proofs.GrammarLaws.{value_made}
use Rattle.received.specs.Received.{Place, clause_segments, value_clear, value_segments, received_field, lines_fit, passes}

-- ---- UTF-8 may be cut after a clause, which ends with `>` (62)

-- after an ASCII byte
cut_after_lem : (x y : List ℕ) → 0 < length x → get_or x (length x - 1) 0 < 128 → T (utf8 (x ++ y)) → T (utf8 x)
cut_after_lem x y h k u =
    let m = length x - 1 in
    let b = get_or x m 0 in
    let over : drop (suc m) x ≡ [] = drop_of_length-le x {i = suc m} (omega arith) in
    let last : x ≡ take m x ++ (b ∷ []) = split_at x m 0 (omega arith) ∙ ap (λ (l : List ℕ). take m x ++ (b ∷ l)) over in
    let same : x ++ y ≡ take m x ++ (b ∷ y) = ap (λ (l : List ℕ). l ++ y) last ∙ append_assoc (take m x) (b ∷ []) y in
    let two = utf8_cut (take m x) b y k (rw same at u) in
    let one : T (utf8 (b ∷ [])) = utf8_ascii (b ∷ []) (yes_and (is_ascii b) true (lt→ltb b 128 k) tt) in
    rw (← last) at (utf8_append (take m x) (b ∷ []) two.0 one)

clause_cut : {c : List ℕ} (more : List ℕ) → Clause c → T (utf8 (c ++ more)) → T (utf8 more)
clause_cut {c} more g u =
    let size : clause_len c ≡ length c = rw append-nil at (clause_taken g []) in
    let some = clause_some g in
    let last : get_or c (length c - 1) 0 ≡ 62 = rw size at (clause_last c (omega (arith, size))) in
    rw (utf8_right c more (cut_after_lem c more some (rw last (omega arith)) u)) at u

-- ---- soundness

rule_sound : RuleSound ReceivedRule
rule_sound = record { part_sound = λ r u. go r u }
  where
    go : {at after : Place} {part more : List ℕ} {p : List Segment} → ReceivedRule at part more p after → T (utf8 (part ++ more)) → T (all sound p) × T (utf8 more)
    go (ReceivedRule.token r n) u = (field.rule_sound).part_sound r u
    go (ReceivedRule.clause {c = c} {more = more} g w) u =
        (cond_has (λ (ss : List Segment). T (all sound ss)) (all is_ascii c) (raw c ∷ []) [] (λ a. yes_and (all is_ascii c) true a tt) (λ a. tt), clause_cut more g u)

-- what passes is clear
clear_value : (name value : List ℕ) → T (passes name value) → T (value_clear value)
unfolding passes
clear_value name value p = (and_yes (value_clear value) (lines_fit (rendered (received_field name value))) p).0

-- what is written for a field that passes is sound
pub received_sound : (name value : List ℕ) → T (all is_ascii name) → T (utf8 value) → T (passes name value) → T (all sound (received_field name value))
unfolding received_field
received_sound name value a u p = named_sound name (value_segments value) a (value_sound ReceivedRule rule_sound (value_made value (clear_value name value p)) u)

-- ---- how long it can be

clause_le : (c : List ℕ) → length (rendered (clause_segments c)) ≤ 23 * length c
unfolding rendered
clause_le c = cond_has (λ (ss : List Segment). length (rendered ss) ≤ 23 * length c) (all is_ascii c) (raw c ∷ []) [] (λ a. rw append-nil (omega arith)) (λ a. omega arith)

rule_short : RuleShort ReceivedRule 23
rule_short = record { part_short = λ r. go r }
  where
    go : {at after : Place} {part more : List ℕ} {p : List Segment} → ReceivedRule at part more p after → length (rendered p) ≤ 23 * length part
    go (ReceivedRule.token r n) = (field.rule_short).part_short r
    go (ReceivedRule.clause {c = c} g w) = clause_le c

pub length_received : (name value : List ℕ) → T (passes name value) → length (rendered (received_field name value)) ≤ 3 + length name + 23 * length value
unfolding received_field
length_received name value p =
    rw (length_named name (value_segments value)) (omega (arith, value_le ReceivedRule rule_short (value_made value (clear_value name value p))))
