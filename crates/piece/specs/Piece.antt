-- A piece of an address field, and the texts of which pieces can be made.
use Rattle.std.specs.Prelude.{cond, ◌&&◌, List, [], ◌∷◌, ℕ, ◌*◌, leb, length}
use Rattle.encoded_word.specs.Segments.{Segment}
use Rattle.encoded_word.specs.Segments.Segment.{raw}

-- "CRLF, space, piece"
abbrev pub piece : List ℕ → Segment
piece text = raw (13 ∷ 10 ∷ 32 ∷ text)

-- a text that a scratch with so much room cannot serve counts as empty: one of more than 32,768 bytes, or of more than half the room
unfoldable pub fitting : ℕ → List ℕ → List ℕ
fitting room text = cond (leb (length text) 32768 && leb (2 * length text) room) text []
