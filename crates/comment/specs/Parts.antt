-- The parts of a comment, "each parenthesis and each run", and the text of a run.
use Rattle.std.specs.Prelude.{Bool, false, not, cond, ◌&&◌, ◌||◌, List, ℕ, eqb, leb, length, get_or}
use Rattle.lists.specs.CutBy.{cut_by}
use Rattle.lists.specs.Lists.{all}
use Rattle.line.specs.Line.{blank}
use Rattle.unquote.specs.Unquote.{kept_from}
use Rattle.comment.specs.Comment.{is_paren, run_len}

-- the length of the part at the front of a text: a parenthesis, or the run up to the next one
unfoldable pub part_len : List ℕ → ℕ
part_len s = cond (is_paren (get_or s 0 0)) 1 (run_len s)

unfoldable pub parts : List ℕ → List (List ℕ)
parts comment = cut_by part_len comment

-- of a run a backslash goes that is not escaped, and of a fold CR and LF: no others stand in a header
abbrev pub stays_in_run : Bool → ℕ → Bool
stays_in_run escaped b = (escaped || not (eqb b 92)) && not (eqb b 13 || eqb b 10)

-- a "run without escapes and folds"
unfoldable pub run_text : List ℕ → List ℕ
run_text run = kept_from stays_in_run false run

-- "a run of spaces and TABs only"
unfoldable pub is_blank_run : List ℕ → Bool
is_blank_run part = all blank part

-- In an address field "a run of spaces and TABs only is dropped, any other over 900 bytes encapsulates the field".
unfoldable pub fits : List ℕ → Bool
fits part = leb (length part) 900 || is_blank_run part
