-- What is written for an envelope and a header that pass, by the paper's grammar, and what passes.
use Rattle.std.specs.Prelude.{true, false, not, List, [], ◌∷◌, ◌++◌, map, ℕ, suc, ◌≤◌, T, eqb, length}
use Rattle.lists.specs.Byte.{is_ascii}
use Rattle.lists.specs.Lists.{all, joined}
use Rattle.letter_case.specs.LetterCase.{bytes}
use Rattle.rules.specs.declared.Rules.{Rules}
use Rattle.encoded_word.specs.Segments.{Segment, rendered}
use Rattle.encoded_word.specs.Segments.Segment.{raw}
use Rattle.line_stop.specs.FirstBad.{WithCrlf}
use Rattle.envelope.specs.EnvelopeDemand.{Ascii, EnvelopeLines}
use Rattle.header_line.specs.Lines.{well_formed}
use Rattle.header.specs.Fields.{fields_of, name_of, value_of, text_of}
use Rattle.field_method.specs.declared.Method.{Method}
use Rattle.field_method.specs.declared.Method.TheVariants.{Pieces, PlainText, Encapsulated, Received, CommentsOrHeld, CommentsOrEncapsulated, Parameters}
use Rattle.field_method.specs.FieldMethod.{method_of}
use Rattle.header_name.specs.Names.{kind_of}
use Rattle.field.specs.Field.{encoded_field, named}
use Rattle.address_grammar.specs.AddressField.{AddressField}
use Rattle.structured_field.specs.Grammar.{StructuredValue}
use Rattle.received.specs.Grammar.{ReceivedValue, LinesFit}
use Rattle.parameter_names.specs.Names.{distinct}
use Rattle.parameterized_field.specs.Value.{Item, item_segments, item_names}
use Rattle.parameterized_field.specs.Grammar.{ParameterizedValue}
use Rattle.call.specs.OutgoingHeader.{new_field}

-- ---- the envelope

-- Not "envelope over 16,384 bytes, or header over 32,768", and no line is refused: "One MAIL line, then 1 to 100 RCPT lines".
pub data EnvelopePasses (rules : Rules) (Asked : List ℕ → Type 0) (e h out : List ℕ) (texts : List (List ℕ)) : Type 0 where
  none_refused : {n : ℕ} → length e ≤ 16384 → length h ≤ 32768 → 2 ≤ n → EnvelopeLines rules Asked n e out texts → EnvelopePasses rules Asked e h out texts

-- "New first fields: `Downgraded-Mail-From` when the MAIL path was replaced, then `Downgraded-Rcpt-To` when there is exactly one RCPT
-- line and it was replaced.", by the lines' texts `<old <new>>`
unfoldable pub first_fields : List (List ℕ) → List Segment
first_fields [] = []
first_fields (mail ∷ []) = new_field (bytes "Downgraded-Mail-From:") mail
first_fields (mail ∷ rcpt ∷ []) = new_field (bytes "Downgraded-Mail-From:") mail ++ new_field (bytes "Downgraded-Rcpt-To:") rcpt
first_fields (mail ∷ rcpt ∷ next ∷ more) = new_field (bytes "Downgraded-Mail-From:") mail

-- ---- the header

-- a well-formed line at the number n. "Lines count from 0."
abbrev pub HeaderFormedAt : ℕ → List ℕ → Type 0
HeaderFormedAt n line = T (well_formed (eqb n 0) line)

-- the first n lines of a header: "Each line ends in CRLF"
pub data HeaderLines : ℕ → List ℕ → Type 0 where
  none : HeaderLines 0 []
  then : {n : ℕ} {before line : List ℕ} → HeaderLines n before → WithCrlf (HeaderFormedAt n) line → HeaderLines (suc n) (before ++ line)

-- What becomes of a field whose value is not ASCII, by the method for it. "Plain text: name, colon, encoded words of the text."
-- "encapsulated: `Downgraded-` before the name". Date and the others with comments "are held only if non-ASCII stands outside their
-- comments"; in a mailbox Message-ID to References "are encapsulated" then. A Received field is held too "with a line grown past 998
-- bytes", one with parameters where a name "is shared by two parameters (any case)". For the method Held there is no rule: such a field
-- is held.
pub data MethodBecomes (rules : Rules) (field : List ℕ) : Method → List Segment → Type 0 where
  pieces : {segments : List Segment} → AddressField rules (name_of field) (text_of field) segments → MethodBecomes rules field Pieces segments
  plain_text : MethodBecomes rules field PlainText (encoded_field false (name_of field) (text_of field))
  encapsulated : MethodBecomes rules field Encapsulated (encoded_field true (name_of field) (text_of field))
  comments : {segments : List Segment} → StructuredValue (value_of field) segments → MethodBecomes rules field CommentsOrHeld (named (name_of field) segments)
  comments_alone : {segments : List Segment} → StructuredValue (value_of field) segments → MethodBecomes rules field CommentsOrEncapsulated (named (name_of field) segments)
  outside_comments : ((segments : List Segment) → StructuredValue (value_of field) segments → ⊥)
      → MethodBecomes rules field CommentsOrEncapsulated (encoded_field true (name_of field) (text_of field))
  received : {segments : List Segment} → ReceivedValue (value_of field) segments → LinesFit (rendered (named (name_of field) segments))
      → MethodBecomes rules field Received (named (name_of field) segments)
  parameters : {items : List Item} → ParameterizedValue (value_of field) items → T (distinct (joined (map item_names items)))
      → MethodBecomes rules field Parameters (named (name_of field) (joined (map item_segments items)))

-- "A field whose value is ASCII is copied."
pub data Becomes (rules : Rules) (field : List ℕ) : List Segment → Type 0 where
  copied : T (all is_ascii (value_of field)) → Becomes rules field (raw field ∷ [])
  rewritten : {segments : List Segment} → T (not (all is_ascii (value_of field))) → MethodBecomes rules field (method_of rules (kind_of (name_of field))) segments → Becomes rules field segments

-- what becomes of fields, one after another
pub data FieldsBecome (rules : Rules) : List (List ℕ) → List Segment → Type 0 where
  none : FieldsBecome rules [] []
  then : {field : List ℕ} {fields : List (List ℕ)} {segments more : List Segment} → Becomes rules field segments → FieldsBecome rules fields more
      → FieldsBecome rules (field ∷ fields) (segments ++ more)

-- What becomes of a header whose lines are well formed.
pub data HeaderBecomes (rules : Rules) (h : List ℕ) (segments : List Segment) : Type 0 where
  all_become : {n : ℕ} → HeaderLines n h → FieldsBecome rules (fields_of h) segments → HeaderBecomes rules h segments

-- ---- both

-- Both pass: `out` is the outgoing envelope, and the outgoing header is these segments, the new first fields before what becomes of the
-- others.
pub data Downgraded (rules : Rules) (e h out : List ℕ) : List Segment → Type 0 where
  both_pass : {texts : List (List ℕ)} {segments : List Segment} → EnvelopePasses rules Ascii e h out texts → HeaderBecomes rules h segments
      → Downgraded rules e h out (first_fields texts ++ segments)
