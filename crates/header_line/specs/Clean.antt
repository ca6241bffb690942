-- Whole headers by windows: UTF-8 without NUL, without lone CR or LF, that ends in LF.
use Rattle.std.specs.Prelude.{◌≡◌, Bool, not, ◌&&◌, ◌||◌, List, ℕ, ◌+◌, ◌<◌, T, eqb, ltb, length, get_or}
use Rattle.lists.specs.Byte.{is_ascii}
use Rattle.utf8.specs.Utf8.{utf8}
use Rattle.utf8.specs.Window.{placed, placed3}

-- a byte d after c: no NUL, and a LF just where a CR stands before it
unfoldable pub line_after : ℕ → ℕ → Bool
line_after c d = not (eqb d 0) && (eqb d 10 && eqb c 13 || not (eqb d 10) && not (eqb c 13))

-- a byte d after a, b and c, in the text of a header
unfoldable pub line_placed : ℕ → ℕ → ℕ → ℕ → Bool
line_placed a b c d = placed a b c d && line_after c d

-- the same among characters of at most three bytes
unfoldable pub line_placed3 : ℕ → ℕ → ℕ → ℕ → Bool
line_placed3 a b c d = placed3 a b c d && line_after c d

-- the same where all four are ASCII
unfoldable pub calm : ℕ → ℕ → ℕ → ℕ → Bool
calm a b c d = is_ascii d && line_after c d

-- the first three bytes of a header
unfoldable pub lines_start : List ℕ → Bool
lines_start h = line_placed 0 0 0 (get_or h 0 0) && line_placed 0 0 (get_or h 0 0) (get_or h 1 0) && line_placed 0 (get_or h 0 0) (get_or h 1 0) (get_or h 2 0)

-- its last three: the last is a LF, and no character goes on
unfoldable pub lines_end : ℕ → ℕ → ℕ → Bool
lines_end a b c = eqb c 10 && ltb b 224 && ltb a 240

pub record Clean (h : List ℕ) : Type 0 where
  pub text : T (utf8 h)
  pub first : T (line_after 0 (get_or h 0 0))
  pub bytes : (k : ℕ) → k + 1 < length h → T (line_after (get_or h k 0) (get_or h (k + 1) 0))
  pub last : (k : ℕ) → k + 1 ≡ length h → get_or h k 0 ≡ 10
