-- Values with parameters and what becomes of them, by example.
use Rattle.std.specs.Prelude.{◌≡◌, refl, cond, List, [], ◌∷◌, ◌++◌, ℕ, eqb}
use Rattle.std.proofs.Math.Option.{Option, none, some}
use Prim.Native.Char.{code}
use Prim.Native.String.{String, [] as nil, ◌∷◌ as cons}
use Rattle.std.specs.Int.Count.{count_leading_zeros}
use Rattle.lists.specs.CutBy.{cut_after, cut_by}
use Rattle.lists.specs.Run.{run}
use Rattle.utf8.specs.Utf8.{char_len, chars}
use Rattle.cut.specs.Cut.{cut}
use Rattle.unquote.specs.Unquote.{kept_from}
use Rattle.hex_digit.specs.Hex.{hex_digit}
use Rattle.letter_case.specs.LetterCase.{lower, same_any_case}
use Rattle.comment.specs.Comment.{past, depth_after, closing, comment_len, run_to, run_len}
use Rattle.comment.specs.Parts.{part_len, parts}
use Rattle.encoded_word.specs.Segments.{rendered}
use Rattle.structured_token.specs.Tokens.{string_len, opened_kind, kind_of, size_of}
use Rattle.structured_token.specs.Walk.{walk_after, walk}
use Rattle.structured_field.specs.StructuredField.{part_segments, clear, becomes}
use Rattle.mime_parameter.specs.Extended.{is_token_byte, is_attribute_char, extended_byte, extended}
use Rattle.mime_parameter.specs.Number.{digits_in, decimal}
use Rattle.mime_parameter.specs.Pieces as mime
use Rattle.field_parameter.specs.Parameter.{closed_len, value_len, parameter_len, name_of, value_of, is_converted, parameter_clear, converted_next}
use Rattle.parameter_names.specs.Names.{distinct}
use Rattle.parameterized_field.specs.Value.{dropped, token_items, parameter_items, front, items_from, clear_from, segments_from, names_from, passes, start}

-- the bytes of a string in which `#` stands for é
abbrev text : String → List ℕ
text nil = []
text (cons c s) = cond (eqb (code c) 35) (195 ∷ 169 ∷ []) (code c ∷ []) ++ text s

-- a value, and what is written for it; a value that holds its field
pub data Case : Type 0 where
  gives : String → String → Case
  holds : String → Case

abbrev written : List ℕ → Option (List ℕ)
written value = cond (passes value) (some (rendered (segments_from start value))) none

abbrev pub Right : Case → Type 0
Right (gives value bytes) = written (text value) ≡ some (text bytes)
Right (holds value) = written (text value) ≡ none

abbrev pub AllRight : List Case → Type 0
AllRight [] = Unit {0}
AllRight (c ∷ cs) = Right c × AllRight cs

abbrev pub cases : List Case
cases =
    gives " a; f=\"#.t\"" " a;\r\n f*=UTF-8''%C3%A9.t"
    -- quoting, escapes and folds are taken off first; the blank after a fold is of the value
    ∷ gives ";p=\"a\\\"#\r\n b\\\\\"" ";\r\n p*=UTF-8''a%22%C3%A9%20b%5C"
    -- what follows the last piece and its `;` starts a new line; if that is another piece, its own line is it
    ∷ gives ";p=# ; q=1" ";\r\n p*=UTF-8''%C3%A9;\r\n q=1"
    ∷ gives ";p=#;q=#" ";\r\n p*=UTF-8''%C3%A9;\r\n q*=UTF-8''%C3%A9"
    ∷ gives ";p=#;;" ";\r\n p*=UTF-8''%C3%A9;\r\n ;"
    -- a comment between keeps the `;` where it is; white space before a comment before a piece stays
    ∷ gives ";p=# (c) ; x" ";\r\n p*=UTF-8''%C3%A9\r\n (c) ; x"
    ∷ gives " ; (b) \r\n p=#" " ; (b)\r\n p*=UTF-8''%C3%A9"
    -- what a parameter is does not depend on what comes later
    ∷ gives ";p=# junk" ";\r\n p*=UTF-8''%C3%A9\r\n junk"
    ∷ holds ";p=# #"
    -- nothing is left after it
    ∷ gives ";p=#; \r\n " ";\r\n p*=UTF-8''%C3%A9;"
    -- after an unclosed parenthesis `;` still begins parameters
    ∷ gives "(a;p=#" "(a;\r\n p*=UTF-8''%C3%A9"
    -- no parameter: no value, white space next to `=`, a string that is not closed, something after the value, no `;` before
    ∷ gives ";p=#;p=" ";\r\n p*=UTF-8''%C3%A9;\r\n p="
    ∷ holds ";p =#"
    ∷ holds ";p=\"#"
    ∷ holds ";p=\"#\"a"
    ∷ holds "p=#"
    -- a name with `*`, also of an ASCII parameter; a name shared by two, in any case
    ∷ holds ";p*=a;q=#"
    ∷ holds ";p=1;q=#;P=2"
    ∷ []

pub cases_right : AllRight cases
unfolding passes clear_from names_from segments_from items_from front walk walk_after token_items parameter_items dropped distinct parameter_len value_len closed_len name_of value_of is_converted parameter_clear converted_next run run_to kind_of size_of opened_kind string_len past depth_after closing comment_len run_len parts part_len part_segments clear becomes cut_by cut_after rendered mime.parameter_lines mime.pieces mime.laid mime.line_fits mime.alone_piece mime.alone_label mime.parts mime.numbered mime.runs_from mime.fits mime.part_piece mime.part_label mime.has_room mime.value_text extended extended_byte is_attribute_char is_token_byte hex_digit decimal digits_in chars char_len count_leading_zeros cut kept_from lower same_any_case
cases_right = (refl, (refl, (refl, (refl, (refl, (refl, (refl, (refl, (refl, (refl, (refl, (refl, (refl, (refl, (refl, (refl, (refl, (refl, tt))))))))))))))))))
