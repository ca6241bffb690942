-- The row of encoded words of a text.
use Rattle.std.specs.Prelude.{Bool, false, cond, ◌||◌, List, [], ◌∷◌, ◌++◌, map, ℕ, zero, suc, ◌-◌, leb, length}
use Rattle.lists.specs.Lists.{joined}
use Rattle.utf8.specs.Utf8.{chars}
use Rattle.cut.specs.Cut.{cut}
use Rattle.row.specs.declared.Encoding.{Encoding}
use Rattle.row.specs.declared.Encoding.TheVariants.{Q, B}
use Rattle.row.specs.Word.{spell_in, word}

-- The encodings of our words: "RFC 2047's B encoding beside Q". Q comes first: "Q when equal".
abbrev pub encodings : List Encoding
encodings = Q ∷ B ∷ []

-- The room of a word is the number of characters between its opening and its closing. A word in this encoding holds these bytes.
abbrev pub holds : ℕ → List ℕ → Encoding → Bool
holds room bytes encoding = leb (length (spell_in encoding bytes)) room

-- whether a word with this room, in one of these encodings, holds these characters, on whichever line k it stands
abbrev pub fits_room : List Encoding → ℕ → ℕ → List (List ℕ) → Bool
fits_room [] room k run = false
fits_room (e ∷ es) room k run = holds room (joined run) e || fits_room es room k run

-- "A word takes as many whole characters as fit." No character, no word.
unfoldable pub runs : List Encoding → ℕ → List (List ℕ) → List (List (List ℕ))
runs es room [] = []
runs es room (c ∷ cs) = cut (fits_room es room) 0 (c ∷ []) cs

-- The encoding of a word: the first of these that holds its bytes. "Each word takes the encoding that holds more whole characters in its
-- room, Q when equal.": what a word takes is what fits in one of them, so that one holds more than each that does not hold it
-- (ChoiceLaws.antt).
unfoldable pub chosen : List Encoding → ℕ → List ℕ → Encoding
chosen [] room bytes = Q
chosen (e ∷ es) room bytes = cond (holds room bytes e) e (chosen es room bytes)

-- the word of some bytes in the encoding chosen for this room
abbrev pub word_in : List Encoding → ℕ → List ℕ → List ℕ
word_in es room bytes = word (chosen es room bytes) bytes

-- "Every word has a line of its own: CRLF and one space come before it". 13 is CR, 10 is LF, 32 is the space.
unfoldable pub lines : List Encoding → ℕ → List (List ℕ) → List ℕ
lines es room words = joined (map (λ (bytes : List ℕ). 13 ∷ 10 ∷ 32 ∷ word_in es room bytes) words)

-- the row of a text in words of 1 to so many characters, each in one of these encodings
unfoldable pub row_in : List Encoding → ℕ → List ℕ → List ℕ
row_in es room text = lines es room (map joined (runs es room (chars text)))

-- the row of a text, in words of "1 to 63 characters"
abbrev pub row : List ℕ → List ℕ
row text = row_in encodings 63 text

-- ---- the row set after a name and its colon, which have `column` characters

-- The room of line k of the field. On line 0, the name's, "put the first word after the colon and one space, as far as 76 characters allow": a
-- name of n characters leaves 62 - n, which is 63 less the name and its colon.
abbrev pub room_after : ℕ → ℕ → ℕ → ℕ
room_after room column zero = room - column
room_after room column (suc k) = room

-- whether line k of the field holds these characters
abbrev pub fits_after : List Encoding → ℕ → ℕ → ℕ → List (List ℕ) → Bool
fits_after es room column k run = fits_room es (room_after room column k) k run

-- the characters on each line of the field; on line 0 there may be none
unfoldable pub runs_after : List Encoding → ℕ → ℕ → List (List ℕ) → List (List (List ℕ))
runs_after es room column cs = cut (fits_after es room column) 0 [] cs

-- "If no character fits, begin on the next line.": then nothing stands after the colon
unfoldable pub lines_after : List Encoding → ℕ → ℕ → List (List ℕ) → List ℕ
lines_after es room column [] = []
lines_after es room column ([] ∷ more) = lines es room more
lines_after es room column ((b ∷ bytes) ∷ more) = (32 ∷ word_in es (room - column) (b ∷ bytes)) ++ lines es room more

unfoldable pub row_after_in : List Encoding → ℕ → ℕ → List ℕ → List ℕ
row_after_in es room column text = lines_after es room column (map joined (runs_after es room column (chars text)))

abbrev pub row_after : ℕ → List ℕ → List ℕ
row_after column text = row_after_in encodings 63 column text

-- The texts that are encoded: a text of more than 4 GiB counts as empty, so that no length is more than a usize holds.
unfoldable pub bounded : List ℕ → List ℕ
bounded text = cond (leb (length text) 4294967296) text []
