-- A written field: the encoded words of its text after a label, or its name and what its value becomes.
use Rattle.std.specs.Prelude.{Bool, true, false, List, [], ◌∷◌, ◌++◌, ℕ}
use Rattle.encoded_word.specs.Segments.{Segment}
use Rattle.encoded_word.specs.Segments.Segment.{raw, labelled}
use Rattle.letter_case.specs.LetterCase.{bytes}

-- a label and the encoded words of a text. "A field ends with CRLF."
unfoldable pub labelled_field : List ℕ → List ℕ → List Segment
labelled_field label text = labelled label text ∷ raw (13 ∷ 10 ∷ []) ∷ []

-- `Downgraded-`, or nothing
unfoldable pub prefix : Bool → List ℕ
prefix true = bytes "Downgraded-"
prefix false = []

-- "name, colon, encoded words of the text", the name as it came, with or without `Downgraded-` before it; a colon is 58
unfoldable pub encoded_field : Bool → List ℕ → List ℕ → List Segment
encoded_field downgraded name text = labelled_field (prefix downgraded ++ (name ++ (58 ∷ []))) text

-- the name as it came, colon, what becomes of the value, CRLF
unfoldable pub named : List ℕ → List Segment → List Segment
named name segments = raw (name ++ (58 ∷ [])) ∷ (segments ++ (raw (13 ∷ 10 ∷ []) ∷ []))
