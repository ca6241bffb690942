-- The values of Received fields, as rules that make texts together with what becomes of them. GrammarLaws.antt proves that these are
-- the values of which every token is clear, and that `value_segments` gives what becomes of each, LinesLaws.antt that `lines_fit` tests
-- `LinesFit`.
use Rattle.std.specs.Prelude.{◌≡◌, Bool, true, false, not, ◌||◌, List, ◌++◌, ℕ, ◌≤◌, T, eqb, length, get_or}
use Rattle.lists.specs.Lists.{all}
use Rattle.encoded_word.specs.Segments.{Segment}
use Rattle.structured_token.specs.Tokens.{is_white}
use Rattle.structured_token.specs.Walk.{Value}
use Rattle.structured_field.specs.Grammar.{StructuredRule}
use Rattle.received_token.specs.Tokens.{starts_for}
use Rattle.received_token.specs.Grammar.{Clause}
use Rattle.received.specs.Received.{Place, clause_segments}
use Rattle.received.specs.Received.Place.{place}

-- A token as in other structured fields, where no for starts: "Comments follow [1].", all else stays. Or a clause, with "white space or the
-- colon before" its for: before the start of the value stands the colon. A field is "held" that has "a for that no such address, ASCII or
-- not, follows", or "non-ASCII left elsewhere": no rule makes these.
pub data ReceivedRule : Place → List ℕ → List ℕ → List Segment → Place → Type 0 where
  token : {comments start on : Bool} {t more : List ℕ} {p : List Segment} → StructuredRule comments t more p on → T (not (starts_for start (t ++ more)))
      → ReceivedRule (place comments start) t more p (place on false)
  clause : {comments start : Bool} {c more : List ℕ} → Clause c → T (is_white (get_or c 0 0) || start) → ReceivedRule (place comments start) c more (clause_segments c) (place comments false)

-- A value of a field that is not held, and what becomes of it. At its start a comment may stand.
abbrev pub ReceivedValue : List ℕ → List Segment → Type 0
ReceivedValue text segments = Value ReceivedRule (place true true) text segments

-- No "line grown past 998 bytes": what stands without LF (10) is at most 998 bytes and the CR before LF.
abbrev pub LinesFit : List ℕ → Type 0
LinesFit s = (before line after : List ℕ) → s ≡ before ++ (line ++ after) → T (all (λ b. not (eqb b 10)) line) → length line ≤ 999
