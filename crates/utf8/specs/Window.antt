-- UTF-8 by windows of four bytes: each byte is judged by itself and the three before it.
use Rattle.std.specs.Prelude.{Bool, true, cond, not, ◌&&◌, ◌||◌, List, [], ◌∷◌, ℕ, zero, suc, ◌+◌, leb, ltb, eqb, drop, get_or}
use Rattle.lists.specs.Byte.{within, is_ascii}
use Rattle.utf8.specs.Utf8.{continues, second_low, second_high}

-- a byte d after a, b and c: the second byte of a character after a lead byte; a tail where a character of three or four bytes goes on;
-- else ASCII or a lead byte
unfoldable pub placed : ℕ → ℕ → ℕ → ℕ → Bool
placed a b c d =
    cond (leb 192 c) (within (second_low c) (second_high c) d)
    (cond (leb 224 b || leb 240 a) (continues d) (is_ascii d || within 194 244 d))

-- the same among characters of at most three bytes, with fewer tests: whether c is below 240 is left to other windows
unfoldable pub placed3 : ℕ → ℕ → ℕ → ℕ → Bool
placed3 a b c d =
    let due = leb 192 c || leb 224 b in
    (due && continues d || not due && not (continues d)) && not (eqb d 192 || eqb d 193) && ltb d 240 && not (eqb c 224 && ltb d 160)
    && not (eqb c 237 && leb 160 d) && ltb a 240

-- no character goes on after a, b and c
unfoldable pub whole : ℕ → ℕ → ℕ → Bool
whole a b c = ltb c 192 && ltb b 224 && ltb a 240

-- every byte of a text after a, b and c is placed well, and its last character is whole
unfoldable pub placed_all : ℕ → ℕ → ℕ → List ℕ → Bool
placed_all a b c [] = whole a b c
placed_all a b c (d ∷ s) = placed a b c d && placed_all b c d s

-- the first three bytes of a text
unfoldable pub starts : List ℕ → Bool
starts s = placed 0 0 0 (get_or s 0 0) && placed 0 0 (get_or s 0 0) (get_or s 1 0) && placed 0 (get_or s 0 0) (get_or s 1 0) (get_or s 2 0)

-- ---- by position

-- a test of the window of four bytes from a place on
abbrev pub window_at : (ℕ → ℕ → ℕ → ℕ → Bool) → List ℕ → ℕ → Bool
window_at f s k = f (get_or s k 0) (get_or s (k + 1) 0) (get_or s (k + 2) 0) (get_or s (k + 3) 0)

-- a test at the n places from i on
unfoldable pub all_at : (ℕ → Bool) → ℕ → ℕ → Bool
all_at p i zero = true
all_at p i (suc n) = all_at p i n && p (i + n)

-- the bytes from k + 3 on
abbrev pub placed_from : List ℕ → ℕ → Bool
placed_from s k = placed_all (get_or s k 0) (get_or s (k + 1) 0) (get_or s (k + 2) 0) (drop (k + 3) s)
