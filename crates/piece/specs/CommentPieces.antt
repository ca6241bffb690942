-- The pieces of a comment in an address field: "each parenthesis and each run is a piece".
use Rattle.std.specs.Prelude.{cond, List, [], ◌∷◌, map, ℕ}
use Rattle.lists.specs.Byte.{is_ascii}
use Rattle.lists.specs.Lists.{all, joined}
use Rattle.comment.specs.Parts.{parts, is_blank_run, run_text}
use Rattle.encoded_word.specs.Segments.{Segment}
use Rattle.encoded_word.specs.Segments.Segment.{words}
use Rattle.piece.specs.Piece.{piece}

-- a parenthesis or a run: "a run of spaces and TABs only is dropped", "ASCII runs stay", and a run "that has non-ASCII becomes encoded
-- words of that run without escapes and folds"
unfoldable pub part_pieces : List ℕ → List Segment
part_pieces part = cond (is_blank_run part) [] (cond (all is_ascii part) (piece part ∷ []) (words (run_text part) ∷ []))

unfoldable pub comment_pieces : List ℕ → List Segment
comment_pieces comment = joined (map part_pieces (parts comment))
