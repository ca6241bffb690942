-- The refusals 5 and 6 of a header by the rules, and when they are given: for the call and for a mailbox.
use Rattle.std.specs.Prelude.{◌≡◌, List, [], ◌∷◌, ◌++◌, ℕ, ◌+◌, length}
use Rattle.lists.specs.Byte.{is_ascii}
use Rattle.lists.specs.Lists.{joined}
use Rattle.lists.specs.Run.{run}
use Rattle.encoded_word.specs.Segments.{Segment}
use Rattle.line_stop.specs.FirstBad.{MalformedAt}
use Rattle.header.specs.Fields.{fields_of, line_count}
use Rattle.rules.specs.declared.Rules.{Rules}
use Rattle.demands.specs.Downgraded.{HeaderFormedAt, HeaderLines, Becomes, FieldsBecome}

-- 5, "header line malformed", at line n: it follows n well-formed lines, and the offset is that of the byte that tells it
pub record MalformedHeader (h : List ℕ) (n offset : ℕ) : Type 0 where
  pub start : List ℕ
  pub rest : List ℕ
  pub is : h ≡ start ++ rest
  pub lines : HeaderLines n start
  pub some : rest ≡ [] → ⊥
  pub at : MalformedAt (HeaderFormedAt n) start rest offset

-- 6, "a held name .. carries non-ASCII", of a header whose lines are well formed: the first field that becomes nothing. "a field's place
-- is its first line": its number is how many lines end before it. "For 6 it is the first non-ASCII byte .. of the field".
pub record HeldHeader (rules : Rules) (h : List ℕ) (line offset : ℕ) : Type 0 where
  pub before : List (List ℕ)
  pub field : List ℕ
  pub after : List (List ℕ)
  pub segments : List Segment
  pub is : fields_of h ≡ before ++ (field ∷ after)
  pub become : FieldsBecome rules before segments
  pub held : (new : List Segment) → Becomes rules field new → ⊥
  pub line_is : line ≡ line_count (joined before)
  pub offset_is : offset ≡ length (joined before) + run is_ascii field
