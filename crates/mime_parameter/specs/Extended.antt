-- The extended values of RFC 2231, as we write them: "charset UTF-8, empty language, uppercase hex after `%`, attribute characters bare".
use Rattle.std.specs.Prelude.{Bool, cond, not, ◌&&◌, ◌||◌, List, [], ◌∷◌, map, ℕ, ◌/◌, ◌%◌, eqb}
use Rattle.lists.specs.Byte.{within}
use Rattle.lists.specs.Lists.{joined}
use Rattle.hex_digit.specs.Hex.{hex_digit}

-- a byte of "a token of RFC 2045": 33 to 126 but its tspecials, which are ( ) < > @ , ; : \ " / [ ] ? =
unfoldable pub is_token_byte : ℕ → Bool
is_token_byte b = within 33 126 b && not (within 40 41 b || within 58 64 b || within 91 93 b || eqb b 34 || eqb b 44 || eqb b 47)

-- RFC 2231, attribute-char: "any (US-ASCII) CHAR except SPACE, CTLs, "*", "'", "%", or tspecials". 42 is `*`, 39 is `'`, 37 is `%`.
unfoldable pub is_attribute_char : ℕ → Bool
is_attribute_char b = is_token_byte b && not (eqb b 42 || eqb b 39 || eqb b 37)

-- `%` (37) and two uppercase hex digits
abbrev pub octet : ℕ → List ℕ
octet b = 37 ∷ hex_digit (b / 16) ∷ hex_digit (b % 16) ∷ []

-- how a byte is written
unfoldable pub extended_byte : ℕ → List ℕ
extended_byte b = cond (is_attribute_char b) (b ∷ []) (octet b)

-- how bytes are written, one after another
unfoldable pub extended : List ℕ → List ℕ
extended bytes = joined (map extended_byte bytes)

-- "charset UTF-8, empty language": `UTF-8''`
abbrev pub charset : List ℕ
charset = 85 ∷ 84 ∷ 70 ∷ 45 ∷ 56 ∷ 39 ∷ 39 ∷ []
