-- The outgoing header as a list of segments: bytes as they stand, the encoded words of a text, a label, which is a name with its colon,
-- with the encoded words of a text set after it, or a parameter's name with the text of its value, by RFC 2231. Wherever a rule asks for encoded
-- words of something there is one segment `words` or `labelled`, and one `parameter` for each value that is converted.
use Rattle.std.specs.Prelude.{Bool, ◌&&◌, List, ◌++◌, map, ℕ, length}
use Rattle.lists.specs.Byte.{is_ascii}
use Rattle.lists.specs.Lists.{all, joined, nonempty}
use Rattle.utf8.specs.Utf8.{utf8}
use Rattle.row.specs.Row.{row, row_after}
use Rattle.mime_parameter.specs.Pieces.{has_room, parameter_lines}

pub data Segment : Type 0 where
  raw : List ℕ → Segment
  words : List ℕ → Segment
  labelled : List ℕ → List ℕ → Segment
  parameter : List ℕ → List ℕ → Segment

-- the bytes of a segment
abbrev pub bytes_of : Segment → List ℕ
bytes_of (raw bytes) = bytes
bytes_of (words text) = row text
bytes_of (labelled label text) = label ++ row_after (length label) text
bytes_of (parameter name text) = parameter_lines name text

-- the bytes of segments one after another
unfoldable pub rendered : List Segment → List ℕ
rendered segments = joined (map bytes_of segments)

-- bytes that stand as they are have to be ASCII, a text that is encoded has to be UTF-8; a parameter's name has to leave room for it
abbrev pub sound : Segment → Bool
sound (raw bytes) = all is_ascii bytes
sound (words text) = utf8 text
sound (labelled label text) = all is_ascii label && utf8 text
sound (parameter name text) = all is_ascii name && utf8 text && nonempty text && has_room name text
