-- A row read byte by byte, "from its bytes alone, front to back": what ReadingLaws.antt proves the grammar of Layout.antt equal to. No
-- demand cites this file.
use Rattle.std.specs.Prelude.{Bool, true, false, not, cond, ◌&&◌, List, [], ◌∷◌, ◌++◌, ℕ, ◌+◌, ◌*◌, eqb, drop}
use Rattle.std.proofs.Math.Option.{Option, none, some, map}
use Rattle.lists.specs.Byte.{within}
use Rattle.base64_digits.specs.Reading.{from_base64}
use Rattle.row.specs.declared.Encoding.{Encoding}
use Rattle.row.specs.declared.Encoding.TheVariants.{Q, B}
use Rattle.row.specs.Layout.{any_case_value, Word, added_text}

-- The state of the reading, with the words closed so far and, in a word, that word so far. A row without a fault closes every word
-- that it opens, so the words closed at its end are those that it opens.
pub data State : Type 0 where
  fault : State
  -- between words; true straight after the `?=` of a word
  between : Bool → List Word → State
  -- after a CR between words
  after_cr : List Word → State
  -- inside `=?UTF-8?`, with these bytes of it to come; after it; and after the letter of an encoding
  opens : List ℕ → List Word → State
  letter : List Word → State
  after_letter : Encoding → List Word → State
  -- in a word in Q
  in_word : List Word → Word → State
  -- in a word after `=`; and after `=` and a digit, with the digit and its value
  after_equals : List Word → Word → State
  after_digit : List Word → Word → ℕ → ℕ → State
  -- in a word after `?`
  closes : List Word → Word → State
  -- in a word in B, with what stands there so far; and after `?`
  in_word_b : List Word → List ℕ → State
  closes_b : List Word → List ℕ → State

-- a word in Q with nothing in it so far
abbrev pub opened : Word
opened = record { encoding = Q; standing = []; added = [] }

-- a word with more standing in it, which adds more
abbrev pub extended : Word → List ℕ → List ℕ → Word
extended w standing added = record { encoding = w.encoding; standing = w.standing ++ standing; added = w.added ++ added }

-- what a byte is in a word
pub data Role : Type 0 where
  underscore equals question itself other : Role

-- 95 is `_`, 61 is `=`, 63 is `?`
unfoldable pub role : ℕ → Role
role b = cond (eqb b 95) underscore (cond (eqb b 61) equals (cond (eqb b 63) question (cond (within 33 126 b) itself other)))

-- `=?UTF-8?`, with which a word starts, and the letter of its encoding: `Q` is 81, `B` is 66
abbrev pub charset : List ℕ
charset = 61 ∷ 63 ∷ 85 ∷ 84 ∷ 70 ∷ 45 ∷ 56 ∷ 63 ∷ []

abbrev pub letter_of : Encoding → ℕ
letter_of Q = 81
letter_of B = 66

-- "Between words: CRLF and spaces add nothing. `=?UTF-8?Q?` opens a word; straight after the `?=` of another it is a fault."
-- 32 is the space, 13 is CR, 61 is `=`.
abbrev pub step_between : Bool → List Word → ℕ → State
step_between straight ws b =
    cond (eqb b 32) (between false ws)
    (cond (eqb b 13) (after_cr ws)
    (cond (eqb b 61 && not straight) (opens (drop 1 charset) ws) fault))

-- The next byte of `=?UTF-8?`, and nothing else. `step_opens []` is never reached: after the last byte comes the letter.
abbrev pub step_opens : List ℕ → List Word → ℕ → State
step_opens [] ws b = fault
step_opens (x ∷ []) ws b = cond (eqb b x) (letter ws) fault
step_opens (x ∷ y ∷ more) ws b = cond (eqb b x) (opens (y ∷ more) ws) fault

-- "document 01's reading then takes `=?UTF-8?B?` words too"
abbrev pub step_letter : List Word → ℕ → State
step_letter ws b = cond (eqb b (letter_of Q)) (after_letter Q ws) (cond (eqb b (letter_of B)) (after_letter B ws) fault)

-- the word is open
abbrev pub open_in : Encoding → List Word → State
open_in Q ws = in_word ws opened
open_in B ws = in_word_b ws []

-- "In a word: `_` adds byte 32. `=` with two hex digits in any case adds that byte. `?=` closes the word. Any other byte 33 to
-- 126 except `?` and `=` adds itself."
abbrev pub step_in_word : Role → List Word → Word → ℕ → State
step_in_word underscore ws w b = in_word ws (extended w (b ∷ []) (32 ∷ []))
step_in_word equals ws w b = after_equals ws w
step_in_word question ws w b = closes ws w
step_in_word itself ws w b = in_word ws (extended w (b ∷ []) (b ∷ []))
step_in_word other ws w b = fault

-- after `=`: the first hex digit, with its value
abbrev pub step_digit : Option ℕ → List Word → Word → ℕ → State
step_digit none ws w b = fault
step_digit (some high) ws w b = after_digit ws w b high

-- after `=` (61) and a hex digit: the second, and the byte is added
abbrev pub step_second : Option ℕ → List Word → Word → ℕ → ℕ → ℕ → State
step_second none ws w first high b = fault
step_second (some low) ws w first high b = in_word ws (extended w (61 ∷ first ∷ b ∷ []) ((high * 16 + low) ∷ []))

-- "by base64": at the `?=` of a word in B, what it adds
abbrev pub closed_b : Option (List ℕ) → List Word → List ℕ → State
closed_b none ws standing = fault
closed_b (some added) ws standing = between true (ws ++ (record { encoding = B; standing = standing; added = added } ∷ []))

-- One byte read. "Anything else is a fault": also a byte other than LF (10) after CR, and other than `=` (61) after the `?` (63) of
-- a word.
unfoldable pub step : State → ℕ → State
step fault b = fault
step (between straight ws) b = step_between straight ws b
step (after_cr ws) b = cond (eqb b 10) (between false ws) fault
step (opens more ws) b = step_opens more ws b
step (letter ws) b = step_letter ws b
step (after_letter encoding ws) b = cond (eqb b 63) (open_in encoding ws) fault
step (in_word ws w) b = step_in_word (role b) ws w b
step (after_equals ws w) b = step_digit (any_case_value b) ws w b
step (after_digit ws w first high) b = step_second (any_case_value b) ws w first high b
step (closes ws w) b = cond (eqb b 61) (between true (ws ++ (w ∷ []))) fault
step (in_word_b ws standing) b = cond (eqb b 63) (closes_b ws standing) (in_word_b ws (standing ++ (b ∷ [])))
step (closes_b ws standing) b = cond (eqb b 61) (closed_b (from_base64 standing) ws standing) fault

-- the bytes of a row read one after another
unfoldable pub reading : State → List ℕ → State
reading s [] = s
reading s (b ∷ row) = reading (step s b) row

-- The words at the end: "and so is an end inside a word", also inside its opening. A CR at the end is no CRLF, and a fault too.
abbrev pub finish : State → Option (List Word)
finish fault = none
finish (between straight ws) = some ws
finish (after_cr ws) = none
finish (opens more ws) = none
finish (letter ws) = none
finish (after_letter encoding ws) = none
finish (in_word ws w) = none
finish (after_equals ws w) = none
finish (after_digit ws w first high) = none
finish (closes ws w) = none
finish (in_word_b ws standing) = none
finish (closes_b ws standing) = none

-- the words of a row of bytes, or none where it has a fault
unfoldable pub words_read : List ℕ → Option (List Word)
words_read row = finish (reading (between false []) row)

-- "A row with a fault reads back as no text; any other reads back as the bytes added, in order."
unfoldable pub reads_as : List ℕ → Option (List ℕ)
reads_as row = map added_text (words_read row)
