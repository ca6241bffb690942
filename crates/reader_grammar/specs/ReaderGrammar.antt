-- What a call of the reader answers and leaves, as rules: where the fields of a header begin, the first from a place on, and what it is
-- shown as. ReaderGrammarLaws.antt proves that this is what the call does, and nothing else.
use Rattle.std.specs.Prelude.{cond, List, [], ◌∷◌, ℕ, ◌+◌, ◌≤◌, ◌<◌, T, length, drop}
use Rattle.buffer.specs.Buffer.{overlay}
use Rattle.line.specs.Line.{crlf}
use Rattle.header.specs.Fields.{field_len}
use Rattle.downgraded_reader.specs.Reader.{is_downgraded, field_at, Outcome}
use Rattle.reader_grammar.specs.FieldGrammar.{FieldShows}

-- A line begins at a place: at the start of the header, or after a CRLF, which alone ends a line.
pub data LineBegins (h : List ℕ) : ℕ → Type 0 where
  at_start : LineBegins h 0
  after_crlf : (p : ℕ) → T (crlf (drop p h)) → LineBegins h (p + 2)

-- "A field runs from a line beginning `Downgraded-` (any case)"
pub record FieldBegins (h : List ℕ) (p : ℕ) : Type 0 where
  pub line : LineBegins h p
  pub prefix : T (is_downgraded (drop p h))

-- "the first field begun there or later"
pub record FirstField (h : List ℕ) (place start : ℕ) : Type 0 where
  pub up : place ≤ start
  pub begins : FieldBegins h start
  pub none_before : (p : ℕ) → place ≤ p → p < start → FieldBegins h p → ⊥

-- ---- a call

-- an outcome for a field that begins at a place. "A field runs .. to the next line not begun by space or TAB."
abbrev pub found : ℕ → List ℕ → ℕ → ℕ → List ℕ → Outcome
found number h start size buffer =
    record { number = number; start = start; next = start + field_len (drop start h); size = size; buffer = buffer }

-- "gives the first field begun there or later, as its text or a reason, and the place after it, or none" (6). "5 buffer short", where the
-- length needed is told; "a refused field writes nothing".
pub data Reads (h : List ℕ) (place : ℕ) (buffer : List ℕ) : Outcome → Type 0 where
  none : ((p : ℕ) → place ≤ p → FieldBegins h p → ⊥)
      → Reads h place buffer (record { number = 6; start = length h; next = length h; size = 0; buffer = buffer })
  shown : {start : ℕ} {text : List ℕ} → FirstField h place start → FieldShows (field_at h start) 0 text → length text ≤ length buffer
      → Reads h place buffer (found 0 h start (length text) (overlay text buffer))
  short : {start : ℕ} {text : List ℕ} → FirstField h place start → FieldShows (field_at h start) 0 text → length buffer < length text
      → Reads h place buffer (found 5 h start (length text) buffer)
  refused : {start number : ℕ} → FirstField h place start → FieldShows (field_at h start) number [] → 0 < number
      → Reads h place buffer (found number h start 0 buffer)

-- ---- fields counted

-- how many of these fields are Downgraded fields
unfoldable pub downgraded_count : List (List ℕ) → ℕ
downgraded_count [] = 0
downgraded_count (field ∷ more) = cond (is_downgraded field) 1 0 + downgraded_count more
