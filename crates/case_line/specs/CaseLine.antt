-- The columns of a line, and a buffer before and after a call.
use Rattle.std.specs.Prelude.{◌≡◌, Bool, true, not, ◌&&◌, List, [], ◌∷◌, ℕ, zero, suc, ◌+◌, ◌*◌, ◌≤◌, min, eqb, length, take, drop, get_or}
use Rattle.lists.specs.Lists.{all}
use Rattle.lists.specs.Run.{run}
use Rattle.hex_digit.specs.Hex.{hex_value}

-- a line that is not empty and starts with neither `#` (35) nor NUL
abbrev pub is_case : List ℕ → Bool
is_case s = not (eqb (get_or s 0 0) 0) && not (eqb (get_or s 0 0) 35)

-- a byte other than the mark
abbrev pub other : ℕ → ℕ → Bool
other mark b = not (eqb b mark)

-- what follows the first `|` (124)
abbrev pub after_bar : List ℕ → List ℕ
after_bar s = drop (suc (run (other 124) s)) s

-- what follows the first n
unfoldable pub after_bars : ℕ → List ℕ → List ℕ
after_bars zero s = s
after_bars (suc n) s = after_bar (after_bars n s)

-- a column, up to the next `|`
unfoldable pub column_of : ℕ → List ℕ → List ℕ
column_of n s = take (run (other 124) (after_bars n s)) (after_bars n s)

-- the number that decimal digits say after a number n, at most 999,999
unfoldable pub decimal : ℕ → List ℕ → ℕ
decimal n [] = n
decimal n (b ∷ s) = decimal (min (n * 10 + hex_value b) 999999) s

-- `#` (35)
abbrev pub is_filler : ℕ → Bool
is_filler b = eqb b 35

-- The buffer starts with the text, or its first `size` bytes, and goes on with #.
pub record Holds (buffer text : List ℕ) (size : ℕ) : Type 0 where
  pub front : take (min size (length text)) buffer ≡ take (min size (length text)) text
  pub rest : all is_filler (drop (min size (length text)) buffer) ≡ true

-- a number of a list's bytes, and so the length of as many of them
abbrev pub IsPrefixLen : ℕ → List ℕ → Type 0
IsPrefixLen n s = (n ≤ length s) × (n ≡ length (take n s))
