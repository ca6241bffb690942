-- How encoded words are written: "A word is `=?UTF-8?Q?`, 1 to 63 characters, `?=`. Letters, digits and `!*+-/` stand for themselves,
-- space is `_`, each other byte is `=` and two uppercase hex digits."
use Rattle.std.specs.Prelude.{Bool, cond, ◌||◌, List, [], ◌∷◌, map, ℕ, ◌/◌, ◌%◌, eqb}
use Rattle.lists.specs.Byte.{within}
use Rattle.lists.specs.Lists.{joined}
use Rattle.hex_digit.specs.Hex.{hex_digit}

-- `=?UTF-8?Q?`, which opens a word
abbrev pub opening : List ℕ
opening = 61 ∷ 63 ∷ 85 ∷ 84 ∷ 70 ∷ 45 ∷ 56 ∷ 63 ∷ 81 ∷ 63 ∷ []

-- `?=`, which closes it
abbrev pub closing : List ℕ
closing = 63 ∷ 61 ∷ []

-- the bytes that stand for themselves: letters, digits and !*+-/
unfoldable pub bare : ℕ → Bool
bare b = within 65 90 b || within 97 122 b || within 48 57 b || eqb b 33 || eqb b 42 || eqb b 43 || eqb b 45 || eqb b 47

-- `=` (61) and two uppercase hex digits
abbrev pub escape : ℕ → List ℕ
escape b = 61 ∷ hex_digit (b / 16) ∷ hex_digit (b % 16) ∷ []

-- how a byte is written: itself, or `_` (95) for a space (32), or `=` and two digits
unfoldable pub spell_byte : ℕ → List ℕ
spell_byte b = cond (bare b) (b ∷ []) (cond (eqb b 32) (95 ∷ []) (escape b))

-- how bytes are written, one after another
unfoldable pub spell : List ℕ → List ℕ
spell bytes = joined (map spell_byte bytes)
