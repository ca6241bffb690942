-- Laws of what becomes of a field: as code writes it, and as it looks for held fields.
use Rattle.std.specs.Prelude.{◌≡◌, Bool, not, ℕ, ◌+◌, ◌-◌, ◌*◌, ◌≤◌, ◌<◌, T, leb, drop}
use Rattle.std.proofs.Math.Path.{refl, sym}
use Rattle.std.proofs.Common.{ap, ◌∙◌, length-append, length-take, length-drop, drop_of_length-le, le-leb}
use Rattle.std.proofs.Math.Bool.{true, false, cond}
use mathlib.Core.List.{List, [], ◌∷◌, ◌++◌, append-nil, append_assoc, map}
use native.Mathlib.Omega.{arith}
use Rattle.std.proofs.Math.ListN.{length, take}
use Rattle.std.proofs.Math.Seq.{length-take-le, take-length}
use Rattle.std.proofs.Math.Facts.{and_yes, leb_yes}
use Rattle.std.proofs.lemmas.Bool.{not-false}
use Rattle.lists.specs.Byte.{is_ascii}
use Rattle.lists.specs.ListsLaws.{by_test, cond_has, yes_true, true_yes, no_false}
use Rattle.lists.specs.Lists.{all, joined}
use Rattle.buffer.specs.Buffer.{Wrote, AppendedCapped, ReachedCapped, greatest}
use Rattle.buffer.specs.BufferLaws.{length_wrote, capped_none, capped_start, length_capped, capped_turn, capped_end}
use Rattle.row.specs.Row.{bounded}
use Rattle.row.proofs.RowLaws.{bounded_short}
use Rattle.encoded_word.specs.Segments.{Segment, rendered}
use Rattle.encoded_word.specs.Segments.Segment.{raw}
use Rattle.encoded_word.specs.SegmentsLaws.{rendered_append}
use Rattle.rules.specs.declared.Rules.{Rules}
use Rattle.header_line.specs.Lines.{name_len}
use Rattle.header.specs.Fields.{field_len, fields_of, name_of, value_of, text_of, line_count}
use Rattle.header.specs.FieldLaws.{field_le, fields_nil, fields_next, name_part, length_value}
use Rattle.header.specs.AsciiFieldsLaws.{AsciiFields, value_ascii}
use Rattle.field_text.specs.TextPlace.{text_place}
use Rattle.field_text.specs.TextLaws.{wrote_front, length_text, text_there}
use Rattle.header_name.specs.Names.{kind_of}
use Rattle.header_name.specs.declared.Kind.{Kind}
use Rattle.field_method.specs.declared.Method.{Method}
use Rattle.field_method.specs.declared.Method.TheVariants.{Pieces, PlainText, Encapsulated, Received, CommentsOrHeld, CommentsOrEncapsulated, Parameters, Held}
use Rattle.field_method.specs.FieldMethod.{method_of}
use Rattle.field.specs.Field.{encoded_field}
use Rattle.piece.specs.Piece.{fitting}
use Rattle.piece.proofs.PieceLaws.{fitting_short}
use Rattle.address_pieces.specs.AddressField.{address_field}
use Rattle.structured_field.specs.StructuredField.{ascii_outside_comments, structured_field}
use Rattle.received.specs.Received.{received_field, passes as received_passes}
use Rattle.parameterized_field.specs.Value.{parameterized_field, passes as parameters_pass}
use Rattle.outgoing_field.specs.Fate.{Fate, comments_or_encapsulated, holds, method_written, method_fate, fate_of, segments_of, field_segments, header_segments, field_written, header_written, limited, is_held, held_from, held_of}
use Rattle.outgoing_field.specs.Fate.Fate.{held, written}
use Rattle.outgoing_field.specs.Fate.FirstHeld.{Absent, At}

-- ---- a field by the method for it

unfoldable pub needs_scratch : Method → Bool
needs_scratch Pieces = true
needs_scratch PlainText = false
needs_scratch Encapsulated = false
needs_scratch Received = true
needs_scratch CommentsOrHeld = true
needs_scratch CommentsOrEncapsulated = true
needs_scratch Parameters = true
needs_scratch Held = false

-- The field is within the limit, its text is given, and a scratch that this method needs is twice as long.
pub record Served (method : Method) (field text scratch : List ℕ) : Type 0 where
  pub short : length field ≤ 32768
  pub is : text ≡ text_of field
  pub room : needs_scratch method ≡ true → 2 * length field ≤ length scratch

-- a value and its text within the limit, and a scratch of twice the value's length
pub record CommentsGiven (value text scratch : List ℕ) : Type 0 where
  pub room : 2 * length value ≤ length scratch
  pub short_value : length value ≤ 32768
  pub short_text : length text ≤ 32768

-- ---- a field

-- Buffers for the text of a field, and for what else it may need.
pub record Roomy (field made scratch : List ℕ) : Type 0 where
  pub short : length field ≤ 32768
  pub text : length field ≤ length made
  pub room : 2 * length field ≤ length scratch
