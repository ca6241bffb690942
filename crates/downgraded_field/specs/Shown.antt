-- The text of a Downgraded field read by a function: what code is checked against. reader_grammar has the grammar.
-- Code goes over the value with its folds: a CRLF is white space there, and is left out of what is shown.
use Rattle.std.specs.Prelude.{Bool, true, false, not, cond, ◌&&◌, ◌||◌, List, [], ◌∷◌, ◌++◌, ℕ, ◌+◌, min, eqb, length, take, drop, get_or, Ok, Err}
use Rattle.lists.specs.Lists.{all}
use Rattle.lists.specs.Run.{run}
use Rattle.line.specs.Line.{blank}
use Rattle.utf8.specs.Utf8.{utf8}
use Rattle.header_line.specs.Lines.{lines_of, line_ok_to}
use Rattle.header.specs.Fields.{value_of}
use Rattle.header.specs.FieldShape.{without_breaks}
use Rattle.word_reader.specs.Each.{each}
use Rattle.word_reader.specs.Word.{is_word, added, form_number}
use Rattle.std.specs.declared.result.Result.{Result}
use Rattle.downgraded_field.specs.declared.FieldFault.{FieldFault}
use Rattle.downgraded_field.specs.declared.FieldFault.TheVariants.{Malformed, Word, Charset, NotUtf8}

-- ---- the field's lines

-- a well-formed continuation
unfoldable pub continues : List ℕ → Bool
continues line = line_ok_to 87 false line && blank (get_or line 0 0)

unfoldable pub lines_formed : List (List ℕ) → Bool
lines_formed [] = false
lines_formed (line ∷ more) = line_ok_to 87 true line && all continues more

-- "field malformed by document 01 (names to 87 bytes here)": its first line is a name line, and the others are continuations
unfoldable pub is_formed : List ℕ → Bool
is_formed field = lines_formed (lines_of field)

-- ---- white space and runs

-- space, TAB, CR (13), LF (10)
unfoldable pub spacing : ℕ → Bool
spacing b = blank b || eqb b 13 || eqb b 10

abbrev pub solid : ℕ → Bool
solid b = not (spacing b)

-- white space, maybe none, and the run after it, which is empty only at the end
pub record Turn : Type 0 where
  pub gap : List ℕ
  pub run : List ℕ

unfoldable pub turn_size : List ℕ → ℕ
turn_size s = run spacing s + run solid (drop (run spacing s) s)

unfoldable pub turn_at : List ℕ → Turn
turn_at s = record { gap = take (run spacing s) s; run = take (run solid (drop (run spacing s) s)) (drop (run spacing s) s) }

unfoldable pub turns_of : List ℕ → List Turn
turns_of s = each turn_size turn_at s

-- ---- what is shown

-- "skips white space between adjacent words": `after` tells whether the run before is a word. "other text stays"
unfoldable pub turn_text : Bool → Turn → List ℕ
turn_text after t =
    cond (is_word t.run) (cond after [] (without_breaks t.gap) ++ added t.run) (without_breaks t.gap ++ t.run)

unfoldable pub shown : Bool → List Turn → List ℕ
shown after [] = []
shown after (t ∷ ts) = turn_text after t ++ shown (is_word t.run) ts

-- 2, 3 or 4 for a word, or 5 where none of them holds
unfoldable pub word_number : List ℕ → ℕ
word_number w = cond (eqb (form_number w) 0) (cond (utf8 (added w)) 5 4) (form_number w)

unfoldable pub turn_number : Turn → ℕ
turn_number t = cond (is_word t.run) (word_number t.run) 5

-- "the lowest that holds"
unfoldable pub lowest : List Turn → ℕ
lowest [] = 5
lowest (t ∷ ts) = min (turn_number t) (lowest ts)

-- ---- a field

-- its turns, without the white space before its text
unfoldable pub field_turns : List ℕ → List Turn
field_turns field = turns_of (drop (run spacing (value_of field)) (value_of field))

unfoldable pub field_text : List ℕ → List ℕ
field_text field = shown false (field_turns field)

unfoldable pub of_number : ℕ → ℕ → Result ℕ FieldFault
of_number n size = cond (eqb n 2) (Err Word) (cond (eqb n 3) (Err Charset) (cond (eqb n 4) (Err NotUtf8) (Ok size)))

unfoldable pub field_read : List ℕ → Result ℕ FieldFault
field_read field = cond (is_formed field) (of_number (lowest (field_turns field)) (length (field_text field))) (Err Malformed)
