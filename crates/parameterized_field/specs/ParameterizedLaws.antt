-- Laws of what a field with parameters becomes: where it passes it is sound, and how long it can be.
use Rattle.std.specs.Prelude.{◌≡◌, refl, Bool, true, false, not, ◌&&◌, List, [], ◌∷◌, ◌++◌, map, ℕ, ◌+◌, ◌*◌, ◌≤◌, ◌<◌, T, length}
use Rattle.std.proofs.Common.{ap, append-nil, arith, length-append}
use Rattle.std.proofs.Math.Facts.{and_yes, yes_and}
use Rattle.lists.specs.Byte.{is_ascii}
use Rattle.lists.specs.Lists.{all, joined, nonempty}
use Rattle.lists.specs.ListsLaws.{all_append}
use Rattle.utf8.specs.Utf8.{utf8}
use Rattle.encoded_word.specs.Segments.{Segment, rendered, sound}
use Rattle.encoded_word.specs.Segments.Segment.{raw, parameter}
use Rattle.encoded_word.specs.SegmentsLaws.{rendered_append}
use Rattle.field.proofs.FieldLaws.{named_sound, length_named}
use Rattle.piece.proofs.PieceLaws.{rendered_one}
use Rattle.structured_token.proofs.BoundaryLaws.{token_both}
use Rattle.structured_token.proofs.GrammarLaws.{token_taken}
use Rattle.structured_token.specs.Walk.{Value}
use Rattle.structured_field.specs.StructuredField.{becomes}
use Rattle.structured_field.proofs.StructuredFieldLaws.{token_sound, token_le}
use Rattle.structured_field.proofs.ValueLaws.{RuleSound, value_sound, RuleShort, value_le}
use Rattle.mime_parameter.specs.Pieces.{value_text, has_room, parameter_lines}
use Rattle.mime_parameter.specs.LinesLaws.{lines_le, text_utf8, length_text, text_some}
use Rattle.field_parameter.specs.Grammar.{standing}
use Rattle.field_parameter.specs.GrammarLaws.{token_ascii, parameter_cut, parameter_taken}
use Rattle.parameter_names.specs.Names.{distinct}
use Rattle.parameterized_field.specs.declared.State.{State}
use Rattle.parameterized_field.specs.Value.{Item, item_segments, new_line, own_mark, items_from, clear_from, segments_from, names_from, passes, start, parameterized_field}
use Rattle.parameterized_field.specs.StepLaws.{map_append}
use Rattle.parameterized_field.specs.Grammar.{ParameterizedRule}
use Rattle.parameterized_field.specs.GrammarLaws.{value_made}

-- ---- the grammar by the segments of its items

abbrev segments_of : List Item → List Segment
segments_of items = joined (map item_segments items)

data SegmentRule : State → List ℕ → List ℕ → List Segment → State → Type 0 where
  of_items : {state after : State} {part more : List ℕ} {items : List Item} → ParameterizedRule state part more items after
      → SegmentRule state part more (segments_of items) after

of_value : {state : State} {text : List ℕ} {items : List Item} → Value ParameterizedRule state text items → Value SegmentRule state text (segments_of items)
of_value Value.end = Value.end
of_value (Value.next {p = p} {q = q} r v) = rw (map_append item_segments p q) (Value.next (SegmentRule.of_items r) (of_value v))

clear_value : (value : List ℕ) → T (passes value) → T (clear_from start value)
unfolding passes
clear_value value p = (and_yes (clear_from start value) (distinct (names_from start value)) p).0

passed : (value : List ℕ) → T (passes value) → Value SegmentRule start value (segments_from start value)
unfolding segments_from
passed value p = of_value (value_made value (clear_value value p))

-- ---- soundness

line_sound : (b : Bool) (item : Item) → T (all sound (item_segments item)) → T (all sound (segments_of (new_line b ++ (item ∷ []))))
line_sound true item h = rw (append-nil (item_segments item)) h
line_sound false item h = rw (append-nil (item_segments item)) h

rule_sound : RuleSound SegmentRule
rule_sound = record { part_sound = λ r u. go r u }
  where
    go : {state after : State} {part more : List ℕ} {p : List Segment} → SegmentRule state part more p after → T (utf8 (part ++ more)) → T (all sound p) × T (utf8 more)
    go (SegmentRule.of_items (ParameterizedRule.converted {name = name} {value = value} a p star c room)) u =
        let text = value_text value in
        let both = parameter_cut p u in
        let x = yes_and (all is_ascii name) (utf8 text) (token_ascii name p.token) (text_utf8 value both.0) in
        let y = yes_and (all is_ascii name && utf8 text) (nonempty text) x (text_some value c) in
        (yes_and (all is_ascii name && utf8 text && nonempty text && has_room name text) true (yes_and (all is_ascii name && utf8 text && nonempty text) (has_room name text) y room) tt, both.1)
    go (SegmentRule.of_items (ParameterizedRule.ascii {state} {name} {value} a p star c)) u =
        let stays = all_append is_ascii name (61 ∷ value) (token_ascii name p.token) c in
        (line_sound state.fresh (Item.stays name (standing name value)) (yes_and (all is_ascii (standing name value)) true stays tt), (parameter_cut p u).1)
    go (SegmentRule.of_items (ParameterizedRule.gone m g)) u = (tt, (token_both m u).1)
    go (SegmentRule.of_items (ParameterizedRule.token {state} {what} {t} m none stay c)) u =
        let both = token_both m u in
        (line_sound (state.fresh && not (own_mark state what)) (Item.other (becomes what t)) (token_sound what t c both.0), both.1)

-- what is written for a field that passes is sound
pub parameterized_sound : (name value : List ℕ) → T (all is_ascii name) → T (utf8 value) → T (passes value) → T (all sound (parameterized_field name value))
unfolding parameterized_field
parameterized_sound name value a u p = named_sound name (segments_from start value) a (value_sound SegmentRule rule_sound (passed value p) u)

-- ---- how long it can be: a part of a byte takes a line of 76 characters with its CRLF

line_le : (b : Bool) (item : Item) → length (rendered (segments_of (new_line b ++ (item ∷ [])))) ≤ 3 + length (rendered (item_segments item))
unfolding rendered
line_le true item = rw (append-nil (item_segments item)) (omega arith)
line_le false item = rw (append-nil (item_segments item)) (omega arith)

rendered_none : rendered [] ≡ []
unfolding rendered
rendered_none = refl

rule_short : RuleShort SegmentRule 80
rule_short = record { part_short = λ r. go r }
  where
    go : {state after : State} {part more : List ℕ} {p : List Segment} → SegmentRule state part more p after → length (rendered p) ≤ 80 * length part
    go (SegmentRule.of_items (ParameterizedRule.converted {name = name} {value = value} a p star c room)) =
        rw (rendered_one (parameter name (value_text value)))
        (omega (arith, lines_le name (value_text value) (text_some value c) room, length_text value, length-append name (61 ∷ value)))
    go (SegmentRule.of_items (ParameterizedRule.ascii {state} {name} {value} a p star c)) =
        let bytes = rendered_one (raw (standing name value)) in
        omega (arith, line_le state.fresh (Item.stays name (standing name value)), ap length bytes, (parameter_taken p).some)
    go (SegmentRule.of_items (ParameterizedRule.gone {t = t} m g)) = rw rendered_none (omega arith)
    go (SegmentRule.of_items (ParameterizedRule.token {state} {what} {t} m none stay c)) =
        omega (arith, line_le (state.fresh && not (own_mark state what)) (Item.other (becomes what t)), token_le what t, (token_taken m).some)

pub length_parameterized : (name value : List ℕ) → T (passes value) → length (rendered (parameterized_field name value)) ≤ 3 + length name + 80 * length value
unfolding parameterized_field
length_parameterized name value p = rw (length_named name (segments_from start value)) (omega (arith, value_le SegmentRule rule_short (passed value p)))
