-- A character of which no byte is ASCII: each of its bytes is spelt as an escape.
use Rattle.std.specs.Prelude.{◌≡◌, Bool, cond, ◌&&◌, ℕ, ◌+◌, ◌-◌, ◌≤◌, ◌<◌, List, T, leb, length, take, drop, get_or}
use Rattle.lists.specs.Byte.{within}
use Rattle.lists.specs.Lists.{all}
use Rattle.utf8.specs.Utf8.{char_len}

-- a byte that is not ASCII
abbrev pub high : ℕ → Bool
high b = within 128 255 b

-- the length of the character at place i, where it has 2 to 4 bytes, the text holds it whole, and none of its bytes is ASCII; else 0
unfoldable pub high_size : List ℕ → ℕ → ℕ
high_size s i = let n = char_len (get_or s i 0) in cond (within 2 4 n && leb n (length s - i) && all high (take n (drop i s))) n 0

-- the same by what a length that is not 0 tells
-- (The character at place i is whole, has r bytes, 2 to 4, and none of them is ASCII; or r is 0.)
pub record HighChar (s : List ℕ) (i r : ℕ) : Type 0 where
  pub least : 0 < r → 2 ≤ r
  pub most : r ≤ 4
  pub size : 0 < r → char_len (get_or s i 0) ≡ r
  pub fits : 0 < r → i + r ≤ length s
  pub bytes : 0 < r → T (all high (take r (drop i s)))
