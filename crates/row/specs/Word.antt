-- An encoded word in Q or in B: "A word is `=?UTF-8?Q?`, 1 to 63 characters, `?=`.", and "RFC 2047's B encoding beside Q".
use Rattle.std.specs.Prelude.{List, [], ◌∷◌, ◌++◌, ℕ}
use Rattle.base64_digits.specs.Base64.{in_base64}
use Rattle.word_spelling.specs.Spelling.{opening, closing, spell}
use Rattle.row.specs.declared.Encoding.{Encoding}
use Rattle.row.specs.declared.Encoding.TheVariants.{Q, B}

-- `=?UTF-8?Q?` and `=?UTF-8?B?`, which open a word
abbrev pub opening_in : Encoding → List ℕ
opening_in Q = opening
opening_in B = 61 ∷ 63 ∷ 85 ∷ 84 ∷ 70 ∷ 45 ∷ 56 ∷ 63 ∷ 66 ∷ 63 ∷ []

-- how bytes stand in a word: "in our Q spelling and in B with the usual padding"
abbrev pub spell_in : Encoding → List ℕ → List ℕ
spell_in Q bytes = spell bytes
spell_in B bytes = in_base64 bytes

-- the word of some bytes
unfoldable pub word : Encoding → List ℕ → List ℕ
word encoding bytes = opening_in encoding ++ (spell_in encoding bytes ++ closing)
