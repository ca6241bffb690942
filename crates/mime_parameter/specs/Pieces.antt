-- The pieces that a non-ASCII parameter value becomes.
use Rattle.std.specs.Prelude.{Bool, cond, not, ◌&&◌, ◌||◌, false, List, [], ◌∷◌, ◌++◌, ℕ, zero, suc, eqb, leb, length}
use Rattle.lists.specs.Lists.{all, joined}
use Rattle.utf8.specs.Utf8.{chars}
use Rattle.cut.specs.Cut.{cut}
use Rattle.unquote.specs.Unquote.{kept_from}
use Rattle.mime_parameter.specs.Extended.{extended, charset}
use Rattle.mime_parameter.specs.Number.{decimal}

-- ---- the value

-- "Quoting, escapes and folds are taken off first.": a quote (34) and a backslash (92) go that are not escaped, and of a fold CR (13) and LF
-- (10): no others stand in a header
abbrev pub stays_in_value : Bool → ℕ → Bool
stays_in_value escaped b = (escaped || not (eqb b 34 || eqb b 92)) && not (eqb b 13 || eqb b 10)

unfoldable pub value_text : List ℕ → List ℕ
value_text standing = kept_from stays_in_value false standing

-- ---- a piece

-- what stands before the value where all of it is one piece, `name*=`, with the charset; 42 is `*`, 61 is `=`
unfoldable pub alone_label : List ℕ → List ℕ
alone_label name = name ++ (42 ∷ 61 ∷ charset)

-- the charset stands in the first part only
abbrev pub charset_of : ℕ → List ℕ
charset_of zero = charset
charset_of (suc k) = []

-- what stands before the value in part k: "numbered parts `name*0*=`, `name*1*=`"
unfoldable pub part_label : List ℕ → ℕ → List ℕ
part_label name k = name ++ (42 ∷ (decimal k ++ (42 ∷ 61 ∷ charset_of k)))

-- "a 76-character line [..] Each converted piece has its own line, begun by one space [..] room for a closing `;` is always counted".
-- 32 is the space, 59 is `;`.
unfoldable pub line_fits : List ℕ → Bool
line_fits piece = leb (length (32 ∷ (piece ++ (59 ∷ [])))) 76

-- ---- the pieces of a value

unfoldable pub alone_piece : List ℕ → List ℕ → List ℕ
alone_piece name value = alone_label name ++ extended value

unfoldable pub part_piece : List ℕ → ℕ → List ℕ → List ℕ
part_piece name k bytes = part_label name k ++ extended bytes

-- whether the line of part k holds these characters
unfoldable pub fits : List ℕ → ℕ → List (List ℕ) → Bool
fits name k run = line_fits (part_piece name k (joined run))

-- the characters of part k and those after it, "whole characters in each, each as full as its line allows"; none is empty
unfoldable pub runs_from : List ℕ → ℕ → List (List ℕ) → List (List (List ℕ))
runs_from name k [] = []
runs_from name k (c ∷ cs) = cut (fits name) k (c ∷ []) cs

-- these parts, numbered from k on
unfoldable pub numbered : List ℕ → ℕ → List (List (List ℕ)) → List (List ℕ)
numbered name k [] = []
numbered name k (run ∷ runs) = part_piece name k (joined run) ∷ numbered name (suc k) runs

unfoldable pub parts : List ℕ → List ℕ → List (List ℕ)
parts name value = numbered name 0 (runs_from name 0 (chars value))

-- "If `name*=` and the value fit a 76-character line they stand there; otherwise use numbered parts"
unfoldable pub pieces : List ℕ → List ℕ → List (List ℕ)
pieces name value = cond (line_fits (alone_piece name value)) (alone_piece name value ∷ []) (parts name value)

-- whether the name leaves room for every character of this value: it fits a single line, or each part's line holds its first character
unfoldable pub has_room : List ℕ → List ℕ → Bool
has_room name value = all line_fits (pieces name value)

-- ---- what is written

-- each on its own line: CRLF (13, 10), space, piece; `;` between them, and `mark` before the first
unfoldable pub laid : List ℕ → List (List ℕ) → List ℕ
laid mark [] = []
laid mark (piece ∷ more) = mark ++ (13 ∷ 10 ∷ 32 ∷ (piece ++ laid (59 ∷ []) more))

unfoldable pub parameter_lines : List ℕ → List ℕ → List ℕ
parameter_lines name value = laid [] (pieces name value)

-- A header has at most 32,768 bytes, and so have names and values: a longer text counts as empty.
unfoldable pub limited : List ℕ → List ℕ
limited text = cond (leb (length text) 32768) text []
