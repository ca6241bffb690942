-- What a Received field becomes, and when it is held.
use Rattle.std.specs.Prelude.{Bool, true, false, cond, ◌&&◌, List, [], ◌∷◌, map, ℕ, ◌+◌, eqb, leb, take}
use Rattle.lists.specs.Byte.{is_ascii}
use Rattle.lists.specs.Lists.{all, joined}
use Rattle.encoded_word.specs.Segments.{Segment, rendered}
use Rattle.encoded_word.specs.Segments.Segment.{raw}
use Rattle.field.specs.Field.{named}
use Rattle.comment.specs.Parts.{parts}
use Rattle.structured_token.specs.Walk.{Front, clear_all, becoming}
use Rattle.structured_field.specs.StructuredField.{part_segments}
use Rattle.received_token.specs.Tokens.{received_kind, received_size, goes_on}
use Rattle.received_token.specs.declared.ReceivedKind.{ReceivedKind}
use Rattle.received_token.specs.declared.ReceivedKind.TheVariants.{Comment, Clause, BareFor, Open, Other}

-- ---- token by token

-- "such a clause is removed when its address is non-ASCII": all else of it is ASCII
abbrev pub clause_segments : List ℕ → List Segment
clause_segments clause = cond (all is_ascii clause) (raw clause ∷ []) []

-- a token of a field that is not held: neither "a for that no such address, ASCII or not, follows" nor "non-ASCII left elsewhere"
unfoldable pub clear : ReceivedKind → List ℕ → Bool
clear Comment token = true
clear Clause token = true
clear BareFor token = false
clear Open token = all is_ascii token
clear Other token = all is_ascii token

-- what a token becomes: "Comments follow [1].", a clause goes or stays, all else stays as it came
unfoldable pub becomes : ReceivedKind → List ℕ → List Segment
becomes Comment token = joined (map part_segments (parts token))
becomes Clause token = clause_segments token
becomes BareFor token = raw token ∷ []
becomes Open token = raw token ∷ []
becomes Other token = raw token ∷ []

-- where a token stands: whether a comment may start there, and whether it is the start of the value
pub data Place : Type 0 where
  place : Bool → Bool → Place

abbrev pub received_front : Place → List ℕ → Front Place Segment
received_front (place comments start) s =
    let what = received_kind start comments s in
    let n = received_size start comments s in
    record { size = n; clear = clear what (take n s); becomes = becomes what (take n s); next = place (goes_on comments what) false }

-- ---- the field

unfoldable pub value_clear : List ℕ → Bool
value_clear value = clear_all received_front (place true true) value

unfoldable pub value_segments : List ℕ → List Segment
value_segments value = becoming received_front (place true true) value

unfoldable pub received_field : List ℕ → List ℕ → List Segment
received_field name value = named name (value_segments value)

-- ---- when it is held

-- How many bytes the last line has, its CR counted, after a byte that stands at a column: LF (10) ends a line. It stays past 999 once
-- a line has more than 998 bytes before its CRLF.
unfoldable pub column_next : ℕ → ℕ → ℕ
column_next column b = cond (leb column 999) (cond (eqb b 10) 0 (column + 1)) column

unfoldable pub column_after : ℕ → List ℕ → ℕ
column_after column [] = column
column_after column (b ∷ s) = column_after (column_next column b) s

-- no "line grown past 998 bytes": LinesLaws.antt proves that it tests `LinesFit` of Grammar.antt
unfoldable pub lines_fit : List ℕ → Bool
lines_fit s = leb (column_after 0 s) 999

-- "A Received field with a for that no such address, ASCII or not, follows, with non-ASCII left elsewhere, or with a line grown past
-- 998 bytes, is still held."
unfoldable pub passes : List ℕ → List ℕ → Bool
passes name value = value_clear value && lines_fit (rendered (received_field name value))
