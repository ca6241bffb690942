-- The fields of a header: name, value and text.
use Rattle.std.specs.Prelude.{Bool, cond, not, ◌&&◌, List, [], ◌∷◌, ℕ, zero, suc, ◌+◌, ◌-◌, length, take, drop, get_or}
use Rattle.lists.specs.CutBy.{cut_by}
use Rattle.lists.specs.Run.{run}
use Rattle.header_line.specs.Lines.{name_len}
use Rattle.line.specs.Line.{blank, crlf}

-- a fold at the front: CRLF before a continuation
unfoldable pub fold : List ℕ → Bool
fold h = crlf h && blank (get_or h 2 0)

-- the length of the field at the front, with the CRLF that ends it: the first that no continuation follows
unfoldable pub field_len : List ℕ → ℕ
field_len [] = 0
field_len (b ∷ rest) = cond (crlf (b ∷ rest) && not (fold (b ∷ rest))) 2 (suc (field_len rest))

-- a header cut into fields: a name line and its continuations each
unfoldable pub fields_of : List ℕ → List (List ℕ)
fields_of h = cut_by field_len h

-- a field's name
unfoldable pub name_of : List ℕ → List ℕ
name_of field = take (name_len field) field

-- a field's value: what stands between its colon and the CRLF that ends it
unfoldable pub value_of : List ℕ → List ℕ
value_of field = drop (name_len field + 1) (take (length field - 2) field)

-- "with each CRLF before a continuation removed", after k bytes of a CRLF
unfoldable pub unfolded_after : ℕ → List ℕ → List ℕ
unfolded_after k [] = []
unfolded_after (suc k) (b ∷ rest) = unfolded_after k rest
unfolded_after zero (b ∷ rest) = cond (fold (b ∷ rest)) (unfolded_after 1 rest) (b ∷ unfolded_after 0 rest)

-- "then without leading spaces and TABs"
unfoldable pub trimmed : List ℕ → List ℕ
trimmed text = drop (run blank text) text

-- "The text of a field is its value with each CRLF before a continuation removed, then without leading spaces and TABs."
unfoldable pub text_of : List ℕ → List ℕ
text_of field = trimmed (unfolded_after 0 (value_of field))

-- how many lines end in some bytes
unfoldable pub line_count : List ℕ → ℕ
line_count [] = 0
line_count (b ∷ rest) = cond (crlf (b ∷ rest)) (suc (line_count rest)) (line_count rest)
