-- The values of structured fields, as rules that make texts together with what becomes of them. GrammarLaws.antt proves that
-- `ascii_outside_comments` takes exactly these texts, and that `value_segments` gives what becomes of each.
use Rattle.std.specs.Prelude.{◌≡◌, Bool, true, false, List, [], ◌∷◌, map, ℕ, T}
use Rattle.lists.specs.Byte.{is_ascii}
use Rattle.lists.specs.Lists.{all, joined}
use Rattle.encoded_word.specs.Segments.{Segment}
use Rattle.encoded_word.specs.Segments.Segment.{raw}
use Rattle.comment.specs.Grammar.{Comment}
use Rattle.comment.specs.Parts.{parts}
use Rattle.structured_token.specs.declared.Kind.{Kind}
use Rattle.structured_token.specs.declared.Kind.TheVariants as kind
use Rattle.structured_token.specs.Grammar.{Token}
use Rattle.structured_token.specs.Walk.{Value}
use Rattle.structured_field.specs.StructuredField.{part_segments}

-- A token of a field that is not held, and what becomes of it: comments become what their runs do, "all else byte for byte". "held only if
-- non-ASCII stands outside their comments". Of an unclosed parenthesis "nothing after it is a comment".
pub data StructuredRule : Bool → List ℕ → List ℕ → List Segment → Bool → Type 0 where
  comment : {c more : List ℕ} → Comment c → StructuredRule true c more (joined (map part_segments (parts c))) true
  unclosed : {comments : Bool} {t more : List ℕ} → Token comments kind.Open t more → StructuredRule comments t more (raw t ∷ []) false
  other : {comments : Bool} {what : Kind} {t more : List ℕ} → Token comments what t more → (what ≡ kind.Comment → ⊥) → (what ≡ kind.Open → ⊥) → T (all is_ascii t)
      → StructuredRule comments t more (raw t ∷ []) comments

-- A value, token by token. At its start a comment may stand.
abbrev pub StructuredValue : List ℕ → List Segment → Type 0
StructuredValue text segments = Value StructuredRule true text segments
