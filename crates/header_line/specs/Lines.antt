-- Header lines: what a well-formed line is, and the first malformed line of a header.
use Rattle.std.specs.Prelude.{⊤, Option, Some, None, Result, Ok, Err, Bool, cond, not, ◌&&◌, ◌||◌, List, [], ◌∷◌, ℕ, suc, ◌+◌, eqb, length, take, drop, get_or}
use Rattle.lists.specs.Lists.{all}
use Rattle.lists.specs.Byte.{within}
use Rattle.lists.specs.Run.{run}
use Rattle.lists.specs.CutBy.{cut_by}
use Rattle.utf8.specs.Utf8.{utf8}
use Rattle.line.specs.Line.{crlf, line_len, blank}
use Rattle.header_line.specs.declared.MalformedLine.{MalformedLine}

-- "holds no NUL, lone CR or lone LF": a line is cut at its first CRLF, so each CR and LF in it is a lone one
unfoldable pub line_byte : ℕ → Bool
line_byte b = not (eqb b 0 || eqb b 10 || eqb b 13)

-- "bytes 33 to 126 without colon"
unfoldable pub name_byte : ℕ → Bool
name_byte b = within 33 126 b && not (eqb b 58)

-- how many such bytes stand at the front
unfoldable pub name_len : List ℕ → ℕ
name_len line = run name_byte line

-- a name of 1 to so many bytes 33 to 126 without colon, then a colon
abbrev pub named_to : ℕ → List ℕ → Bool
named_to limit line = within 1 limit (name_len line) && eqb (get_or line (name_len line) 0) 58

-- "a name of 1 to 76 bytes 33 to 126 without colon, then a colon"
unfoldable pub named : List ℕ → Bool
named line = named_to 76 line

-- "a continuation (starts with space or TAB; not the first line)"
unfoldable pub continuation : Bool → List ℕ → Bool
continuation first line = blank (get_or line 0 0) && not first

-- "Each line .. has 1 to 998 bytes before it, holds no NUL, lone CR or lone LF, and is UTF-8. It is a continuation or a name ..", by a test of what starts with a name
abbrev pub formed_by : (List ℕ → Bool) → Bool → List ℕ → Bool
formed_by starts first line = within 1 998 (length line) && all line_byte line && utf8 line && (continuation first line || starts line)

unfoldable pub well_formed : Bool → List ℕ → Bool
well_formed first line = formed_by named first line

-- ---- line after line

-- the lines of a header, each with its CRLF; what follows the last CRLF is a line too
unfoldable pub lines_of : List ℕ → List (List ℕ)
lines_of h = cut_by (λ rest. line_len rest + 2) h

-- "Each line ends in CRLF", and what stands before it passes a test
abbrev pub ended_by : (List ℕ → Bool) → List ℕ → Bool
ended_by formed line = crlf (drop (line_len line) line) && formed (take (line_len line) line)

unfoldable pub line_ok : Bool → List ℕ → Bool
line_ok first line = ended_by (well_formed first) line

-- the same where a name may have so many bytes
unfoldable pub line_ok_to : ℕ → Bool → List ℕ → Bool
line_ok_to limit first line = ended_by (formed_by (named_to limit) first) line

-- the place after the line at `at`, where it is well formed
unfoldable pub after_line : ℕ → Bool → List ℕ → ℕ → Option ℕ
after_line limit first h at = cond (line_ok_to limit first (drop at h)) (Some (at + (line_len (drop at h) + 2))) None

-- a check of lines: well formed, or the number of the first malformed line and the byte where it starts
abbrev pub LineCheck : Type 0
LineCheck = Result ⊤ MalformedLine

abbrev pub bad_line : ℕ → ℕ → LineCheck
bad_line line at = Err (record { line = line; at = at })

-- the first malformed one of these lines, the first of which is line n and starts at the byte `at`
unfoldable pub lines_from : ℕ → ℕ → List (List ℕ) → LineCheck
lines_from n at [] = Ok tt
lines_from n at (line ∷ more) = let next = lines_from (suc n) (at + length line) more in cond (line_ok (eqb n 0) line) next (bad_line n at)

-- "A header may be empty." "Lines count from 0."
unfoldable pub checked_lines : List ℕ → LineCheck
checked_lines h = lines_from 0 0 (lines_of h)
