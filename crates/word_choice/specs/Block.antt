-- What the first bytes of a text tell of the encoding of its first word, by a short test.
use Rattle.std.specs.Prelude.{Bool, not, cond, ◌&&◌, ◌||◌, List, [], ◌∷◌, ℕ, ◌+◌, ◌*◌, ◌/◌, leb, ltb, eqb, length, take, get_or}
use Rattle.lists.specs.Byte.{within}

abbrev pub bit : Bool → ℕ
bit t = cond t 1 0

-- how many bytes pass a test
unfoldable pub count : (ℕ → Bool) → List ℕ → ℕ
count f [] = 0
count f (x ∷ xs) = bit (f x) + count f xs

-- a letter, a digit or a space
unfoldable pub plain : ℕ → Bool
plain b = within 65 90 b || within 97 122 b || within 48 57 b || eqb b 32

-- any other byte
abbrev pub other : ℕ → Bool
other b = not (plain b)

-- There are 48 bytes, the first is ASCII, and few of them are neither letters, digits nor spaces: as many bytes as a word in B holds in this
-- room take no more than the room in Q, three characters for each of those and one for each other.
unfoldable pub surely_in_q : ℕ → List ℕ → Bool
surely_in_q room s = leb 48 (length s) && ltb (get_or s 0 0) 128 && leb (room / 4 * 3 + 2 * count other (take 48 s)) room
