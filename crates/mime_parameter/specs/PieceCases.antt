-- The pieces of values, by example.
use Rattle.std.specs.Prelude.{◌≡◌, refl, List, [], ◌∷◌, ℕ, replicate}
use Prim.Native.Char.{code}
use Prim.Native.String.{String, [] as nil, ◌∷◌ as cons}
use Rattle.std.specs.Int.Count.{count_leading_zeros}
use Rattle.lists.specs.CutBy.{cut_after, cut_by}
use Rattle.lists.specs.Lists.{joined}
use Rattle.utf8.specs.Utf8.{char_len, chars}
use Rattle.cut.specs.Cut.{cut}
use Rattle.unquote.specs.Unquote.{kept_from}
use Rattle.hex_digit.specs.Hex.{hex_digit}
use Rattle.mime_parameter.specs.Extended.{is_token_byte, is_attribute_char, extended_byte, extended}
use Rattle.mime_parameter.specs.Number.{digits_in, decimal}
use Rattle.mime_parameter.specs.Pieces.{value_text, alone_label, part_label, line_fits, alone_piece, part_piece, fits, runs_from, numbered, parts, pieces, laid, parameter_lines}

-- the bytes of an ASCII string
abbrev bytes : String → List ℕ
bytes nil = []
bytes (cons c s) = code c ∷ bytes s

abbrev é : List ℕ
é = 195 ∷ 169 ∷ []

abbrev é_times : ℕ → List ℕ
é_times n = joined (replicate n é)

abbrev Right : List ℕ → List ℕ → String → Type 0
Right name value written = parameter_lines name value ≡ bytes written

pub numbers : (decimal 0 ≡ bytes "0") × (decimal 9 ≡ bytes "9") × (decimal 10 ≡ bytes "10") × (decimal 209 ≡ bytes "209") × (decimal 32768 ≡ bytes "32768")
unfolding decimal digits_in
numbers = (refl, refl, refl, refl, refl)

-- quotes, escapes and a fold are taken off; its blank stays
pub text : value_text (bytes "\"a\\\"b\r\n c\"") ≡ bytes "a\"b c"
unfolding value_text kept_from
text = refl

-- attribute characters stand bare, `*`, `'`, `%`, a space and tspecials do not
pub spelling : extended (bytes "aZ0!~-._ *'%;=") ≡ bytes "aZ0!~-._%20%2A%27%25%3B%3D"
unfolding extended extended_byte is_attribute_char is_token_byte hex_digit
spelling = refl

pub alone : Right (bytes "f") é "\r\n f*=UTF-8''%C3%A9"
unfolding parameter_lines pieces laid line_fits alone_piece alone_label extended extended_byte is_attribute_char is_token_byte hex_digit parts numbered runs_from cut fits part_piece part_label decimal digits_in chars cut_by cut_after char_len count_leading_zeros
alone = refl

-- a name of 5 leaves 60 alone, ten `é`; with one more there are two parts: 58 in part 0, nine `é`
pub border : Right (bytes "fname") (é_times 10) "\r\n fname*=UTF-8''%C3%A9%C3%A9%C3%A9%C3%A9%C3%A9%C3%A9%C3%A9%C3%A9%C3%A9%C3%A9"
unfolding parameter_lines pieces laid line_fits alone_piece alone_label extended extended_byte is_attribute_char is_token_byte hex_digit parts numbered runs_from cut fits part_piece part_label decimal digits_in chars cut_by cut_after char_len count_leading_zeros
border = refl

pub past_border : Right (bytes "fname") (é_times 11) "\r\n fname*0*=UTF-8''%C3%A9%C3%A9%C3%A9%C3%A9%C3%A9%C3%A9%C3%A9%C3%A9%C3%A9;\r\n fname*1*=%C3%A9%C3%A9"
unfolding parameter_lines pieces laid line_fits alone_piece alone_label extended extended_byte is_attribute_char is_token_byte hex_digit parts numbered runs_from cut fits part_piece part_label decimal digits_in chars cut_by cut_after char_len count_leading_zeros
past_border = refl
