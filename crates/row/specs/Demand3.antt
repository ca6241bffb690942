-- Demand 3 for one text of UTF-8 and its row: "Every row of encoded words reads back, by RFC 2047, as exactly its text; each word is at
-- most 75 characters and holds whole characters; no other row in our spelling that reads back as the same text has fewer words.", by request
-- 10: "No row of Q and B words [..], in our Q spelling and in B with the usual padding, whole characters in each, reads back as the text with
-- [..] fewer words". CounterexampleLaws.antt has rows of which it does not hold, for each part of it.
use Rattle.std.specs.Prelude.{◌≡◌, false, ℕ, ◌≤◌, T, length}
use mathlib.Core.List.{List, Memᴰ}
use Rattle.utf8.specs.Utf8.{utf8}
use Rattle.row.specs.declared.Encoding.{Encoding}
use Rattle.row.specs.Word.{spell_in}
use Rattle.row.specs.Row.{encodings}
use Rattle.row.specs.Layout.{Word, word_bytes, LaidAfter, added_text}

-- one word in one of these encodings, of at most so many characters
pub record Proper (es : List Encoding) (limit : ℕ) (w : Word) : Type 0 where
  pub allowed : Memᴰ w.encoding es
  -- "A word is in our spelling when each byte it adds stands there as Encoded words writes that byte.": so what stands there is what it
  -- adds, written so (`spelt_bytes` and `bytes_spelt` in LayoutLaws.antt). "and in B with the usual padding": as every B word that reads is
  -- (`base64_spelt` there).
  pub spelt : w.standing ≡ spell_in w.encoding w.added
  pub short : length (word_bytes w) ≤ limit
  -- "It holds whole characters when the bytes it adds are UTF-8 by themselves."
  pub whole : T (utf8 w.added)

-- A row that reads back as the text, whose words are proper. `Rows row words n` says which rows are set against each other: a row, the words
-- that it has, and how many words or lines are counted.
pub record RowOf (es : List Encoding) (limit : ℕ) (Rows : List ℕ → List Word → ℕ → Type 0) (text row : List ℕ) (n : ℕ) : Type 0 where
  pub words : List Word
  pub laid : Rows row words n
  pub reads : added_text words ≡ text
  pub proper : (w : Word) → Memᴰ w words → Proper es limit w

-- Demand 3 among these rows, for words in these encodings of at most `limit` characters: the row is one of them, and none counts fewer.
pub record Demand3In (es : List Encoding) (limit : ℕ) (Rows : List ℕ → List Word → ℕ → Type 0) (text row : List ℕ) : Type 0 where
  pub count : ℕ
  pub ours : RowOf es limit Rows text row count
  pub fewest : (other : List ℕ) (n : ℕ) → RowOf es limit Rows text other n → count ≤ n

-- A row of these words, which are so many. "Demand 3 sets our row against all rows of such words, however made, and whatever CRLF and spaces
-- part them." "The reading starts between words, with nothing added." "Its words are counted where they open."
abbrev pub LaidWords : List ℕ → List Word → ℕ → Type 0
LaidWords row words n = LaidAfter false row words × (length words ≡ n)

-- Demand 3: "each word is at most 75 characters", in Q or in B
abbrev pub Demand3 : List ℕ → List ℕ → Type 0
Demand3 text row = Demand3In encodings 75 LaidWords text row
