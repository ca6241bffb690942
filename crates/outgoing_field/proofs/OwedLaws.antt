-- What every method for a field owes: what is written for it is sound, and no longer than its most (Most.antt).
use Rattle.std.specs.Prelude.{◌≡◌, refl, Bool, not, cond, ℕ, ◌+◌, ◌*◌, ◌≤◌, T, Ok}
use Rattle.std.proofs.Common.{ap, ◌∙◌, arith, length-append}
use Rattle.std.proofs.Math.Bool.{true, false}
use mathlib.Core.List.{List, [], ◌∷◌, ◌++◌, append-nil, map}
use Rattle.std.proofs.Math.ListN.{length}
use Rattle.std.proofs.Math.Facts.{yes_and}
use Rattle.lists.specs.Byte.{is_ascii}
use Rattle.lists.specs.ListsLaws.{by_test, cond_has, yes_true, no_false, all_append}
use Rattle.lists.specs.Lists.{all, joined}
use Rattle.encoded_word.specs.Segments.{Segment, rendered, sound}
use Rattle.encoded_word.specs.Segments.Segment.{raw}
use Rattle.encoded_word.specs.SegmentsLaws.{rendered_append}
use Rattle.rules.specs.declared.Rules.{Rules}
use Rattle.header_line.specs.Lines.{checked_lines}
use Rattle.header.specs.Fields.{fields_of, name_of, value_of, text_of}
use Rattle.header.specs.FieldLaws.{fields_joined}
use Rattle.header.specs.FieldShape.{Shaped, Each}
use Rattle.header.specs.FieldShapeLaws.{fields_shaped, text_utf8, value_utf8, name_ascii, field_ascii}
use Rattle.field_text.specs.TextLaws.{length_shaped}
use Rattle.header_name.specs.Names.{kind_of}
use Rattle.field_method.specs.declared.Method.{Method}
use Rattle.field_method.specs.declared.Method.TheVariants.{Pieces, PlainText, Encapsulated, Received, CommentsOrHeld, CommentsOrEncapsulated, Parameters, Held}
use Rattle.field_method.specs.FieldMethod.{method_of}
use Rattle.field.specs.Field.{encoded_field}
use Rattle.field.proofs.FieldLaws.{encoded_sound, length_encoded}
use Rattle.address_pieces.proofs.SoundLaws.{address_field_sound}
use Rattle.address_pieces.proofs.LengthLaws.{address_field_within}
use Rattle.structured_field.specs.StructuredField.{ascii_outside_comments, structured_field}
use Rattle.structured_field.proofs.StructuredFieldLaws.{structured_sound, length_structured}
use Rattle.received.specs.Received.{received_field, passes as received_passes}
use Rattle.received.proofs.ReceivedLaws.{received_sound, length_received}
use Rattle.parameterized_field.specs.Value.{parameterized_field, passes as parameters_pass}
use Rattle.parameterized_field.specs.ParameterizedLaws.{parameterized_sound, length_parameterized}
use Rattle.outgoing_field.specs.Fate.{Fate, comments_or_encapsulated, holds, method_written, method_fate, fate_of, segments_of, field_segments, header_segments}
use Rattle.outgoing_field.specs.Fate.Fate.{held, written}
use Rattle.outgoing_field.specs.Most.{method_most, field_most, fields_most, most_of}

-- What becomes of a field owes this. A method that is added owes it too, and nothing else.
pub record Owed (most : ℕ) (fate : Fate) : Type 0 where
  pub sound_all : T (all sound (segments_of fate))
  pub short : length (rendered (segments_of fate)) ≤ most

owed_held : (most : ℕ) → Owed most held
unfolding segments_of rendered
owed_held most = record { sound_all = tt; short = omega arith }

module _ {field : List ℕ} (s : Shaped field) where
  owed_copied : T (all is_ascii (value_of field)) → Owed (30 * length field) (written (raw field ∷ []))
  unfolding segments_of rendered
  owed_copied t = record { sound_all = yes_and (all is_ascii field) true (field_ascii s t) tt; short = rw append-nil (omega arith) }

  owed_encoded : (downgraded : Bool) → Owed (30 * length field) (written (encoded_field downgraded (name_of field) (text_of field)))
  unfolding segments_of
  owed_encoded downgraded = record {
    sound_all = encoded_sound downgraded (name_of field) (text_of field) (name_ascii field) (text_utf8 s);
    short = omega (arith, length_encoded downgraded (name_of field) (text_of field), length_shaped s);
  }

  length_parts : length field ≡ length (name_of field) + length (value_of field) + 3
  length_parts =
      ap length s.parts
      ∙ (length-append (name_of field) (58 ∷ (value_of field ++ (13 ∷ 10 ∷ []))) ∙ omega (arith, length-append (value_of field) (13 ∷ 10 ∷ [])))

  owed_structured : T (ascii_outside_comments (value_of field)) → Owed (30 * length field) (written (structured_field (name_of field) (value_of field)))
  unfolding segments_of
  owed_structured t = record {
    sound_all = structured_sound (name_of field) (value_of field) (name_ascii field) (value_utf8 s) t;
    short = omega (arith, length_structured (name_of field) (value_of field) t, length_parts);
  }

  owed_received : T (received_passes (name_of field) (value_of field)) → Owed (30 * length field) (written (received_field (name_of field) (value_of field)))
  unfolding segments_of
  owed_received t = record {
    sound_all = received_sound (name_of field) (value_of field) (name_ascii field) (value_utf8 s) t;
    short = omega (arith, length_received (name_of field) (value_of field) t, length_parts);
  }

  owed_parameters : T (parameters_pass (value_of field)) → Owed (80 * length field) (written (parameterized_field (name_of field) (value_of field)))
  unfolding segments_of
  owed_parameters t = record {
    sound_all = parameterized_sound (name_of field) (value_of field) (name_ascii field) (value_utf8 s) t;
    short = omega (arith, length_parameterized (name_of field) (value_of field) t, length_parts);
  }

  -- a method that holds a field unless it passes a test
  owed_unless : (most : ℕ) (passes : Bool) (segments : List Segment) → (T passes → Owed most (written segments)) → Owed most (cond (not passes) held (written segments))
  owed_unless most true segments k = k tt
  owed_unless most false segments k = owed_held most

  owed_method : (rules : Rules) (method : Method) → Owed (method_most method (length field)) (method_fate rules method field)
  unfolding method_fate holds method_written method_most segments_of comments_or_encapsulated
  owed_method rules Pieces = record {
    sound_all = address_field_sound rules (name_of field) (text_of field) (name_ascii field) (text_utf8 s);
    short = address_field_within rules (name_of field) (text_of field) (length field) (length_shaped s);
  }
  owed_method rules PlainText = owed_encoded false
  owed_method rules Encapsulated = owed_encoded true
  owed_method rules Received =
      owed_unless (30 * length field) (received_passes (name_of field) (value_of field)) (received_field (name_of field) (value_of field)) owed_received
  owed_method rules CommentsOrHeld =
      owed_unless (30 * length field) (ascii_outside_comments (value_of field)) (structured_field (name_of field) (value_of field)) owed_structured
  owed_method rules CommentsOrEncapsulated =
      cond_has (λ (ss : List Segment). Owed (30 * length field) (written ss)) (ascii_outside_comments (value_of field)) (structured_field (name_of field) (value_of field))
      (encoded_field true (name_of field) (text_of field))
      owed_structured
      (λ t. owed_encoded true)
  owed_method rules Parameters =
      owed_unless (80 * length field) (parameters_pass (value_of field)) (parameterized_field (name_of field) (value_of field)) owed_parameters
  owed_method rules Held = owed_held (30 * length field)

  owed_field : (rules : Rules) → Owed (field_most rules field) (fate_of rules field)
  unfolding fate_of field_most
  owed_field rules =
      let ascii = all is_ascii (value_of field) in
      by_test ascii
      (λ t. rw (yes_true ascii t) (owed_copied t))
      (λ t. rw (no_false ascii t) (owed_method rules (method_of rules (kind_of (name_of field)))))

owed_fields : (rules : Rules) (fields : List (List ℕ)) → Each Shaped fields → Owed (fields_most rules fields) (written (joined (map (field_segments rules) fields)))
unfolding segments_of rendered field_segments fields_most
owed_fields rules [] s = record { sound_all = tt; short = omega arith }
owed_fields rules (field ∷ fields) s =
    let one = field_segments rules field in
    let more = joined (map (field_segments rules) fields) in
    let a = owed_field s.0 rules in
    let b = owed_fields rules fields s.1 in
    record {
      sound_all = all_append sound one more a.sound_all b.sound_all;
      short = rw (rendered_append one more, length-append (rendered one) (rendered more)) (omega (arith, a.short, b.short));
    }

-- the same of all that is written for the fields of a well-formed header
pub owed_header : (rules : Rules) (h : List ℕ) → checked_lines h ≡ Ok tt → Owed (most_of rules h) (written (header_segments rules h))
unfolding header_segments most_of
owed_header rules h w = owed_fields rules (fields_of h) (fields_shaped h w)
