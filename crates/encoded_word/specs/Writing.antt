-- What the functions that write a row promise each other: characters of a word in Q, a word, lines.
use Rattle.std.specs.Prelude.{◌≡◌, List, ◌∷◌, ℕ, ◌+◌, ◌≤◌, ◌<◌, min, length, drop, get_or}
use Rattle.utf8.specs.Utf8.{char_len}
use Rattle.buffer.specs.Buffer.{Appended, Reached}
use Rattle.word_spelling.specs.Spelling.{spell}
use Rattle.word_spelling.specs.Cost.{cost}
use Rattle.row.specs.declared.Encoding.{Encoding}
use Rattle.row.specs.declared.Encoding.TheVariants.{Q}
use Rattle.row.specs.Word.{word}
use Rattle.row.specs.Row.{row, row_after}
use Rattle.row.specs.WordEnd.{Span, WordEnd}
use Rattle.row.specs.WordEndLaws.{between}
use Rattle.word_choice.specs.EndInQLaws.{EndInQ}

-- The characters from place i to place i' of a text are written from the place `at` on, in a word with room for `left`, and then for `left'`.
-- Where there are none, the next does not fit.
pub record PutTurn (s : List ℕ) (i left at : ℕ) (before after : List ℕ) (i' left' at' : ℕ) : Type 0 where
  pub span : Span s i i'
  pub spent : left ≡ left' + cost (between s i i')
  pub wrote : Appended (spell (between s i i')) at before after at'
  pub stopped : i' ≡ i → (next : ℕ) → next ≡ min (i + char_len (get_or s i 0)) (length s) → left < cost (between s i next)

-- As many characters at the front of a text as a word in Q holds are written from the place `at` on.
pub record PutInQ (room : ℕ) (s : List ℕ) (at : ℕ) (before after : List ℕ) (e at' : ℕ) : Type 0 where
  pub end : EndInQ room s e (cost (between s 0 e))
  pub wrote : Appended (spell (between s 0 e)) at before after at'

-- the same as a word
pub record PutWordInQ (room : ℕ) (s : List ℕ) (at : ℕ) (before after : List ℕ) (e at' : ℕ) : Type 0 where
  pub end : EndInQ room s e (cost (between s 0 e))
  pub wrote : Appended (word Q (between s 0 e)) at before after at'

-- The word at the front of a text is written from the place `at` on.
pub record PutWord (room : ℕ) (s : List ℕ) (at : ℕ) (before after : List ℕ) (e at' : ℕ) : Type 0 where
  pub kind : Encoding
  pub end : WordEnd room s 0 e kind
  pub wrote : Appended (word kind (between s 0 e)) at before after at'

-- the same on a line of its own. 13 10 is CRLF, 32 is the space.
pub record PutLine (s : List ℕ) (at : ℕ) (before after : List ℕ) (e at' : ℕ) : Type 0 where
  pub kind : Encoding
  pub end : WordEnd 63 s 0 e kind
  pub wrote : Appended (13 ∷ 10 ∷ 32 ∷ word kind (between s 0 e)) at before after at'

-- The row of a text after a name is written up to the end of the name's line, which is place e of the text.
pub record Begun (column : ℕ) (s before after : List ℕ) (e at : ℕ) : Type 0 where
  pub within : e ≤ length s
  pub reached : Reached (row_after column s) (row (drop e s)) 0 before after at

-- Lines are written from the place `at` on, those from place i to place i' of the text.
pub record Ran (s : List ℕ) (i at : ℕ) (before after : List ℕ) (i' at' : ℕ) : Type 0 where
  pub within : i' ≤ length s
  pub reached : Reached (row (drop i s)) (row (drop i' s)) at before after at'
