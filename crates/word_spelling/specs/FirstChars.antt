-- The table of the first characters of the spellings of all bytes, from which code tells how a byte is written.
use Rattle.std.specs.Prelude.{cond, List, [], ◌∷◌, ℕ, zero, suc, ◌+◌, eqb, get_or}
use Rattle.word_spelling.specs.Spelling.{bare}

-- the first character of a byte's spelling: its only one, or the `=` (61) of an escape
unfoldable pub first_char : ℕ → ℕ
first_char b = cond (bare b) b (cond (eqb b 32) 95 61)

-- the table of n values of a function, from k on
unfoldable pub from : (ℕ → ℕ) → ℕ → ℕ → List ℕ
from f k zero = []
from f k (suc n) = f k ∷ from f (suc k) n

unfoldable pub first_chars : List ℕ
first_chars = from first_char 0 256

-- by such a table: how many characters of a word a byte takes, and some bytes take; an escape takes 3
unfoldable pub cost_in : List ℕ → ℕ → ℕ
cost_in first b = cond (eqb (get_or first b 0) 61) 3 1

unfoldable pub costs_in : List ℕ → List ℕ → ℕ
costs_in first [] = 0
costs_in first (b ∷ bytes) = cost_in first b + costs_in first bytes
