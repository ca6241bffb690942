-- How many characters of a word a byte takes, and some bytes take.
use Rattle.std.specs.Prelude.{List, ℕ, length}
use Rattle.word_spelling.specs.Spelling.{spell_byte, spell}

abbrev pub byte_cost : ℕ → ℕ
byte_cost b = length (spell_byte b)

abbrev pub cost : List ℕ → ℕ
cost bytes = length (spell bytes)
