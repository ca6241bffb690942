-- Demand 3 for plain text fields and all Downgraded fields: their rows are set after a name and its colon. "Demand 3 for these fields now
-- speaks of the fewest lines of the field, among rows set as ours are: the first word after the colon and one space or on the next
-- line, every later word on its own line after one space, no line that holds a word over 76 characters." FieldCounterexampleLaws.antt has
-- rows of which it does not hold.
use Rattle.std.specs.Prelude.{List, [], ◌∷◌, ◌++◌, ℕ, suc, ◌+◌, ◌≤◌, length}
use Rattle.row.specs.Row.{encodings}
use Rattle.row.specs.Layout.{Word, word_bytes, Reads}
use Rattle.row.specs.Demand3.{Demand3In}

-- "every later word on its own line after one space". 13 10 is CRLF, 32 is the space.
pub data OwnLines : List ℕ → List Word → Type 0 where
  none : OwnLines [] []
  line : {row : List ℕ} {w : Word} {ws : List Word} → Reads w → OwnLines row ws → OwnLines ((13 ∷ 10 ∷ 32 ∷ word_bytes w) ++ row) (w ∷ ws)

-- A row set as ours are, after a name and its colon of `column` characters, where a line has at most one character more than `limit`: its
-- bytes, its words, and how many lines the field has: the name's, and that of each word on its own.
pub data SetAfter (limit column : ℕ) : List ℕ → List Word → ℕ → Type 0 where
  -- "the first word after the colon and one space"
  here : {row : List ℕ} {w : Word} {ws : List Word} → Reads w → column + length (32 ∷ word_bytes w) ≤ suc limit → OwnLines row ws
      → SetAfter limit column ((32 ∷ word_bytes w) ++ row) (w ∷ ws) (suc (length ws))
  -- "or on the next line"
  below : {row : List ℕ} {ws : List Word} → OwnLines row ws → SetAfter limit column row ws (suc (length ws))

-- Demand 3 for a field whose name and colon have `column` characters: "No row of Q and B words [..] one to a line of at most 76 characters".
-- A word of at most 75 characters fits a line after one space.
abbrev pub FieldDemand3 : ℕ → List ℕ → List ℕ → Type 0
FieldDemand3 column text row = Demand3In encodings 75 (SetAfter 75 column) text row
