-- The most bytes that are written for a field, and for the fields of a header. OwedLaws.antt proves it of every method.
use Rattle.std.specs.Prelude.{◌≡◌, true, false, cond, Option, Some, None, Result, Ok, Err, List, [], ◌∷◌, ℕ, ◌+◌, ◌*◌, length}
use Rattle.lists.specs.Byte.{is_ascii}
use Rattle.lists.specs.Lists.{all}
use Rattle.rules.specs.declared.Rules.{Rules}
use Rattle.header.specs.Fields.{fields_of, name_of, value_of}
use Rattle.header_name.specs.Names.{kind_of}
use Rattle.field_method.specs.declared.Method.{Method}
use Rattle.field_method.specs.declared.Method.TheVariants.{Pieces, PlainText, Encapsulated, Received, CommentsOrHeld, CommentsOrEncapsulated, Parameters, Held}
use Rattle.field_method.specs.FieldMethod.{method_of}
use Rattle.outgoing_field.specs.Fate.FirstHeld.{Absent, At}
use Rattle.outgoing_field.specs.declared.HeldField.{HeldField}
use Rattle.outgoing_field.specs.Fate.{fate_of, is_held, held_of}

-- for a field of so many bytes whose value is not ASCII: 80 for each where its parameters are converted, else 30
unfoldable pub method_most : Method → ℕ → ℕ
method_most Pieces n = 30 * n
method_most PlainText n = 30 * n
method_most Encapsulated n = 30 * n
method_most Received n = 30 * n
method_most CommentsOrHeld n = 30 * n
method_most CommentsOrEncapsulated n = 30 * n
method_most Parameters n = 80 * n
method_most Held n = 30 * n

-- for a field
unfoldable pub field_most : Rules → List ℕ → ℕ
field_most rules field = cond (all is_ascii (value_of field)) (30 * length field) (method_most (method_of rules (kind_of (name_of field))) (length field))

-- for fields, one after another
unfoldable pub fields_most : Rules → List (List ℕ) → ℕ
fields_most rules [] = 0
fields_most rules (field ∷ fields) = field_most rules field + fields_most rules fields

-- for a header
unfoldable pub most_of : Rules → List ℕ → ℕ
most_of rules h = fields_most rules (fields_of h)

-- what is found by a look at a field: its most, or that it is held
abbrev pub LooksAs : Rules → List ℕ → Option ℕ → Type 0
LooksAs rules field (Some most) = (is_held (fate_of rules field) ≡ false) × (most ≡ field_most rules field)
LooksAs rules field None = is_held (fate_of rules field) ≡ true

-- what is found by a walk through a header: its most, or its first held field
abbrev pub Looked : Rules → List ℕ → Result ℕ HeldField → Type 0
Looked rules h (Ok most) = (held_of rules h ≡ Absent) × (most ≡ most_of rules h)
Looked rules h (Err field) = held_of rules h ≡ At field.line field.at
