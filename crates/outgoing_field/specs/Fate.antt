-- What becomes of each field of a header: it is held, or something is written for it.
use Rattle.std.specs.Prelude.{Bool, true, false, cond, not, List, [], ◌∷◌, map, ℕ, ◌+◌, leb, length, take}
use Rattle.lists.specs.Byte.{is_ascii}
use Rattle.lists.specs.Lists.{all, joined}
use Rattle.encoded_word.specs.Segments.{Segment}
use Rattle.encoded_word.specs.Segments.Segment.{raw}
use Rattle.rules.specs.declared.Rules.{Rules}
use Rattle.header.specs.Fields.{fields_of, name_of, value_of, text_of, line_count}
use Rattle.header_name.specs.Names.{kind_of}
use Rattle.field_method.specs.declared.Method.{Method}
use Rattle.field_method.specs.declared.Method.TheVariants.{Pieces, PlainText, Encapsulated, Received, CommentsOrHeld, CommentsOrEncapsulated, Parameters, Held}
use Rattle.field_method.specs.FieldMethod.{method_of}
use Rattle.field.specs.Field.{encoded_field}
use Rattle.address_pieces.specs.AddressField.{address_field}
use Rattle.structured_field.specs.StructuredField.{ascii_outside_comments, structured_field}
use Rattle.received.specs.Received.{received_field, passes as received_passes}
use Rattle.parameterized_field.specs.Value.{parameterized_field, passes as parameters_pass}

pub data Fate : Type 0 where
  held : Fate
  written : List Segment → Fate

-- comments encoded where no non-ASCII stands outside them, else the text encapsulated: by a name, a value and its text
unfoldable pub comments_or_encapsulated : List ℕ → List ℕ → List ℕ → List Segment
comments_or_encapsulated name value text = cond (ascii_outside_comments value) (structured_field name value) (encoded_field true name text)

-- whether a field whose value is not ASCII is held, by the method for it. Date and the others with comments "are held only if non-ASCII
-- stands outside their comments". Received fields by request 2, parameters by request 7.
unfoldable pub holds : Method → List ℕ → Bool
holds Pieces field = false
holds PlainText field = false
holds Encapsulated field = false
holds Received field = not (received_passes (name_of field) (value_of field))
holds CommentsOrHeld field = not (ascii_outside_comments (value_of field))
holds CommentsOrEncapsulated field = false
holds Parameters field = not (parameters_pass (value_of field))
holds Held field = true

-- what is written for it where it is not held. "Plain text: name, colon, encoded words of the text." "encapsulated: `Downgraded-` before
-- the name".
unfoldable pub method_written : Rules → Method → List ℕ → List Segment
method_written rules Pieces field = address_field rules (name_of field) (text_of field)
method_written rules PlainText field = encoded_field false (name_of field) (text_of field)
method_written rules Encapsulated field = encoded_field true (name_of field) (text_of field)
method_written rules Received field = received_field (name_of field) (value_of field)
method_written rules CommentsOrHeld field = structured_field (name_of field) (value_of field)
method_written rules CommentsOrEncapsulated field = comments_or_encapsulated (name_of field) (value_of field) (text_of field)
method_written rules Parameters field = parameterized_field (name_of field) (value_of field)
method_written rules Held field = []

unfoldable pub method_fate : Rules → Method → List ℕ → Fate
method_fate rules method field = cond (holds method field) held (written (method_written rules method field))

-- "A field whose value is ASCII is copied."
unfoldable pub fate_of : Rules → List ℕ → Fate
fate_of rules field = cond (all is_ascii (value_of field)) (written (raw field ∷ [])) (method_fate rules (method_of rules (kind_of (name_of field))) field)

-- ---- what is written

unfoldable pub segments_of : Fate → List Segment
segments_of held = []
segments_of (written segments) = segments

-- what is written for a field
unfoldable pub field_segments : Rules → List ℕ → List Segment
field_segments rules field = segments_of (fate_of rules field)

-- what is written for the fields of a header, one after another
unfoldable pub header_segments : Rules → List ℕ → List Segment
header_segments rules h = joined (map (field_segments rules) (fields_of h))

-- the same where no field is held: code looks for held fields before it writes, and does not test them again
unfoldable pub field_written : Rules → List ℕ → List Segment
field_written rules field = cond (all is_ascii (value_of field)) (raw field ∷ []) (method_written rules (method_of rules (kind_of (name_of field))) field)

unfoldable pub header_written : Rules → List ℕ → List Segment
header_written rules h = joined (map (field_written rules) (fields_of h))

-- A header has at most 32,768 bytes, and so has a field: a longer one counts as empty.
unfoldable pub limited : List ℕ → List ℕ
limited s = cond (leb (length s) 32768) s []

-- ---- what is held

unfoldable pub is_held : Fate → Bool
is_held held = true
is_held (written segments) = false

-- the first held field of a header, if any: the number of its first line, and the byte where it starts
pub data FirstHeld : Type 0 where
  Absent : FirstHeld
  At : ℕ → ℕ → FirstHeld

-- the first held field of these fields of a header, the first of which starts at the byte `at`. "a field's place is its first line":
-- lines count from 0, so its number is how many lines end before it.
unfoldable pub held_from : Rules → List ℕ → ℕ → List (List ℕ) → FirstHeld
held_from rules h at [] = FirstHeld.Absent
held_from rules h at (field ∷ fields) =
    cond (is_held (fate_of rules field)) (FirstHeld.At (line_count (take at h)) at) (held_from rules h (at + length field) fields)

-- the first held field of a header
unfoldable pub held_of : Rules → List ℕ → FirstHeld
held_of rules h = held_from rules h 0 (fields_of h)
