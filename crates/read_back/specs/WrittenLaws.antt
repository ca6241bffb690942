-- The outgoing header is made of written fields. Each method for a field owes that what it writes is such: a label with the encoded words of a
-- text, or a name and what the value becomes, which has no label.
use Rattle.std.specs.Prelude.{◌≡◌, refl, Bool, ℕ, ◌≤◌, T, length, get_or, Ok}
use Rattle.std.proofs.Common.{sym, ◌∙◌, arith, length-append}
use Rattle.std.proofs.Math.Bool.{true, false}
use mathlib.Core.List.{List, [], ◌∷◌, ◌++◌, append_assoc, append-nil, map}
use Rattle.std.proofs.Math.Seq.{length-take-le}
use Rattle.std.proofs.Math.Facts.{and_yes}
use Rattle.lists.specs.Byte.{is_ascii}
use Rattle.lists.specs.ByteLaws.{within_low, within_high}
use Rattle.lists.specs.Lists.{all, joined}
use Rattle.lists.specs.ListsLaws.{cond_has, all_append}
use Rattle.lists.specs.RunLaws.{run_all, run_le}
use Rattle.letter_case.specs.LetterCase.{bytes}
use Rattle.line.specs.Line.{blank}
use Rattle.utf8.specs.Utf8.{utf8}
use Rattle.rules.specs.declared.Rules.{Rules}
use Rattle.encoded_word.specs.Segments.{Segment, rendered}
use Rattle.encoded_word.specs.Segments.Segment.{raw}
use Rattle.header_line.specs.Lines.{name_byte, name_len, checked_lines}
use Rattle.header.specs.Fields.{fields_of, name_of, value_of, text_of}
use Rattle.header.specs.FieldShape.{Shaped, Each}
use Rattle.header.specs.FieldShapeLaws.{fields_shaped, text_utf8}
use Rattle.header_name.specs.Names.{kind_of}
use Rattle.field_method.specs.declared.Method.{Method}
use Rattle.field_method.specs.declared.Method.TheVariants.{Pieces, PlainText, Encapsulated, Received, CommentsOrHeld, CommentsOrEncapsulated, Parameters, Held}
use Rattle.field_method.specs.FieldMethod.{method_of}
use Rattle.field.specs.Field.{labelled_field, prefix, encoded_field, named}
use Rattle.field.proofs.FieldLaws.{named_bytes}
use Rattle.address_list.specs.Parts.{parts_of}
use Rattle.address_list.specs.Table.{examined}
use Rattle.address_list.specs.declared.Examined.{Examined}
use Rattle.address_list.specs.declared.Examined.TheVariants.{DoesNotFit, Kept, Changed}
use Rattle.group.specs.Group.{turns_of}
use Rattle.address_pieces.specs.Pieces.{pieces_of}
use Rattle.address_pieces.specs.AddressField.{rewritten_field, adds_copy, copy_of, field_by, address_field}
use Rattle.structured_field.specs.StructuredField.{ascii_outside_comments, structured_field, value_segments as structured_segments}
use Rattle.received.specs.Received.{received_field, value_segments as received_segments}
use Rattle.parameterized_field.specs.Value.{start, segments_from, parameterized_field}
use Rattle.outgoing_field.specs.Fate.{Fate, comments_or_encapsulated, holds, method_written, method_fate, fate_of, segments_of, field_segments, header_segments}
use Rattle.outgoing_field.specs.Fate.Fate.{held, written}
use Rattle.envelope.specs.Envelope.{checked, mail_replacement, rcpt_replacement}
use Rattle.envelope.proofs.ReplacementLaws.{mail_replacement_utf8, rcpt_replacement_utf8}
use Rattle.call.specs.OutgoingHeader.{new_field, new_fields, outgoing_segments}
use Rattle.downgraded_row.specs.RowLinesLaws.{Label}
use Rattle.downgraded_row.specs.ReadBackLaws.{unlabelled, WrittenFields, written_then, name_not_blank}
use Rattle.read_back.specs.UnlabelledLaws.{Unlabelled, structured_unlabelled, received_unlabelled, parameterized_unlabelled, turns_unlabelled}

-- ---- a field alone

encoded_alone : (label text : List ℕ) → Label label → T (utf8 text) → WrittenFields (labelled_field label text)
encoded_alone label text l u = rw (append-nil (labelled_field label text)) at (WrittenFields.encoded text l u WrittenFields.none)

other_alone : (segments : List Segment) (front : List ℕ) → rendered segments ≡ front ++ (13 ∷ 10 ∷ []) → blank (get_or front 0 0) ≡ false → Unlabelled segments → WrittenFields segments
other_alone segments front e n d = rw (append-nil segments) at (WrittenFields.other segments front e n d WrittenFields.none)

raw_bytes : (s : List ℕ) → rendered (raw s ∷ []) ≡ s
unfolding rendered
raw_bytes s = append-nil s

no_label : (name : List ℕ) (ss : List Segment) → Unlabelled ss → Unlabelled (named name ss)
unfolding named
no_label name ss d = all_append unlabelled ss (raw (13 ∷ 10 ∷ []) ∷ []) d tt

prefix_is : (downgraded : Bool) → T (all name_byte (prefix downgraded)) × (length (prefix downgraded) ≤ 11)
unfolding prefix bytes name_byte
prefix_is true = (tt, omega arith)
prefix_is false = (tt, omega arith)

-- ---- a field of a well-formed header

module _ {field : List ℕ} (s : Shaped field) where
  name_size : length (name_of field) ≡ name_len field
  unfolding name_of name_len
  name_size = length-take-le (name_len field) field (run_le name_byte field)

  name_bytes : T (all name_byte (name_of field))
  unfolding name_of name_len
  name_bytes = run_all name_byte field

  name_some : 1 ≤ length (name_of field)
  name_some = omega (arith, name_size, within_low 1 76 (name_len field) s.name)

  name_few : length (name_of field) ≤ 76
  name_few = omega (arith, name_size, within_high 1 76 (name_len field) s.name)

  starts : (rest : List ℕ) → blank (get_or (name_of field ++ rest) 0 0) ≡ false
  starts rest = go (name_of field) name_some name_bytes
    where
      go : (a : List ℕ) → 1 ≤ length a → T (all name_byte a) → blank (get_or (a ++ rest) 0 0) ≡ false
      go [] k t = absurd (omega arith)
      go (b ∷ a) k t = name_not_blank b (and_yes (name_byte b) (all name_byte a) t).0

  -- a label: `Downgraded-` has 11 bytes
  label_is : (downgraded : Bool) → Label (prefix downgraded ++ (name_of field ++ (58 ∷ [])))
  label_is downgraded =
      let p = prefix_is downgraded in
      record {
        name = prefix downgraded ++ name_of field;
        is = sym (append_assoc (prefix downgraded) (name_of field) (58 ∷ []));
        bytes = all_append name_byte (prefix downgraded) (name_of field) p.0 name_bytes;
        some = omega (arith, name_some, length-append (prefix downgraded) (name_of field));
        few = omega (arith, name_few, p.1, length-append (prefix downgraded) (name_of field));
      }

  pub encoded_written : (downgraded : Bool) → WrittenFields (encoded_field downgraded (name_of field) (text_of field))
  unfolding encoded_field
  encoded_written downgraded = encoded_alone (prefix downgraded ++ (name_of field ++ (58 ∷ []))) (text_of field) (label_is downgraded) (text_utf8 s)

  pub copied_written : WrittenFields (raw field ∷ [])
  copied_written =
      let front = name_of field ++ (58 ∷ value_of field) in
      let whole : field ≡ front ++ (13 ∷ 10 ∷ []) = s.parts ∙ sym (append_assoc (name_of field) (58 ∷ value_of field) (13 ∷ 10 ∷ [])) in
      other_alone (raw field ∷ []) front (raw_bytes field ∙ whole) (starts (58 ∷ value_of field)) tt

  -- a name, and what the value becomes
  pub named_written : (segments : List Segment) → Unlabelled segments → WrittenFields (named (name_of field) segments)
  named_written segments d =
      let label = name_of field ++ (58 ∷ []) in
      let front = label ++ rendered segments in
      let whole : rendered (named (name_of field) segments) ≡ front ++ (13 ∷ 10 ∷ []) =
      named_bytes (name_of field) segments ∙ sym (append_assoc label (rendered segments) (13 ∷ 10 ∷ [])) in
      let fresh : blank (get_or front 0 0) ≡ false = rw (append_assoc (name_of field) (58 ∷ []) (rendered segments)) (starts (58 ∷ rendered segments)) in
      other_alone (named (name_of field) segments) front whole fresh (no_label (name_of field) segments d)

  -- ---- by the methods

  address_written : (rules : Rules) (e : Examined) → WrittenFields (field_by e rules (name_of field) (text_of field))
  unfolding field_by rewritten_field copy_of
  address_written rules DoesNotFit = encoded_written true
  address_written rules Kept = named_written (pieces_of rules (turns_of (parts_of rules (text_of field)))) (turns_unlabelled rules (turns_of (parts_of rules (text_of field))))
  address_written rules Changed =
      written_then
      (named_written (pieces_of rules (turns_of (parts_of rules (text_of field)))) (turns_unlabelled rules (turns_of (parts_of rules (text_of field)))))
      (cond_has WrittenFields (adds_copy rules) (encoded_field true (name_of field) (text_of field)) [] (λ t. encoded_written true) (λ t. WrittenFields.none))

  structured_written : WrittenFields (structured_field (name_of field) (value_of field))
  unfolding structured_field
  structured_written = named_written (structured_segments (value_of field)) (structured_unlabelled (value_of field))

  received_written : WrittenFields (received_field (name_of field) (value_of field))
  unfolding received_field
  received_written = named_written (received_segments (value_of field)) (received_unlabelled (value_of field))

  parameterized_written : WrittenFields (parameterized_field (name_of field) (value_of field))
  unfolding parameterized_field
  parameterized_written = named_written (segments_from start (value_of field)) (parameterized_unlabelled (value_of field))

  not_held : (rules : Rules) (method : Method) → WrittenFields (method_written rules method field)
  unfolding method_written comments_or_encapsulated address_field
  not_held rules Pieces = address_written rules (examined rules (text_of field))
  not_held rules PlainText = encoded_written false
  not_held rules Encapsulated = encoded_written true
  not_held rules Received = received_written
  not_held rules CommentsOrHeld = structured_written
  not_held rules CommentsOrEncapsulated =
      cond_has WrittenFields (ascii_outside_comments (value_of field)) (structured_field (name_of field) (value_of field)) (encoded_field true (name_of field) (text_of field))
      (λ t. structured_written)
      (λ t. encoded_written true)
  not_held rules Parameters = parameterized_written
  not_held rules Held = WrittenFields.none

  abbrev FateWritten : Fate → Type 0
  FateWritten fate = WrittenFields (segments_of fate)

  method_written_lem : (rules : Rules) (method : Method) → FateWritten (method_fate rules method field)
  unfolding method_fate segments_of
  method_written_lem rules method =
      cond_has FateWritten (holds method field) held (written (method_written rules method field)) (λ t. WrittenFields.none) (λ t. not_held rules method)

  field_written_lem : (rules : Rules) → WrittenFields (field_segments rules field)
  unfolding field_segments fate_of segments_of
  field_written_lem rules =
      cond_has FateWritten (all is_ascii (value_of field)) (written (raw field ∷ [])) (method_fate rules (method_of rules (kind_of (name_of field))) field)
      (λ t. copied_written)
      (λ t. method_written_lem rules (method_of rules (kind_of (name_of field))))

-- ---- the header

fields_written : (rules : Rules) (fields : List (List ℕ)) → Each Shaped fields → WrittenFields (joined (map (field_segments rules) fields))
fields_written rules [] s = WrittenFields.none
fields_written rules (field ∷ fields) s = written_then (field_written_lem s.0 rules) (fields_written rules fields s.1)

pub header_written_lem : (rules : Rules) (h : List ℕ) → checked_lines h ≡ Ok tt → WrittenFields (header_segments rules h)
unfolding header_segments
header_written_lem rules h w = fields_written rules (fields_of h) (fields_shaped h w)

-- the new first fields

new_written : (label text : List ℕ) → Label label → T (utf8 text) → WrittenFields (new_field label text)
unfolding new_field
new_written label [] l u = WrittenFields.none
new_written label (b ∷ text) l u = encoded_alone label (b ∷ text) l u

mail_label : Label (bytes "Downgraded-Mail-From:")
unfolding bytes name_byte
mail_label = record { name = bytes "Downgraded-Mail-From"; is = refl; bytes = tt; some = omega arith; few = omega arith }

rcpt_label : Label (bytes "Downgraded-Rcpt-To:")
unfolding bytes name_byte
rcpt_label = record { name = bytes "Downgraded-Rcpt-To"; is = refl; bytes = tt; some = omega arith; few = omega arith }

pub outgoing_written : (rules : Rules) (e h : List ℕ) (n : ℕ) → checked rules e ≡ Ok n → checked_lines h ≡ Ok tt → WrittenFields (outgoing_segments rules e h)
unfolding outgoing_segments new_fields
outgoing_written rules e h n p w =
    written_then
    (written_then
    (new_written (bytes "Downgraded-Mail-From:") (mail_replacement e) mail_label (mail_replacement_utf8 rules e n p))
    (new_written (bytes "Downgraded-Rcpt-To:") (rcpt_replacement e) rcpt_label (rcpt_replacement_utf8 rules e n p)))
    (header_written_lem rules h w)
