-- An envelope, cut into its lines: which refusal it gets, and what is written for it.
use Rattle.std.specs.Prelude.{Bool, true, false, cond, List, [], ◌∷◌, ◌++◌, map, ℕ, suc, pred, ◌+◌, eqb, leb, ltb, take, drop, Result, Ok, Err, ⊤, Option, Some, None}
use Rattle.std.specs.Result.{result_and}
use Rattle.lists.specs.Lists.{joined}
use Rattle.lists.specs.CutBy.{cut_by}
use Rattle.line.specs.Line.{crlf, line_len}
use Rattle.rules.specs.declared.Rules.{Rules}
use Rattle.envelope_line.specs.declared.Fault.{Fault}
use Rattle.envelope_line.specs.declared.Fault.TheVariants.{Malformed, NoAlternative, BadAlternative, RetiredAlternative}
use Rattle.envelope_line.specs.EnvelopeLine.{line_fault, orcpt_fault, written_line, replacement}
use Rattle.envelope.specs.declared.FaultAt.{FaultAt}

-- ---- lines

-- the lines of an envelope, each with its CRLF; what follows the last CRLF is a line too
unfoldable pub lines : List ℕ → List (List ℕ)
lines e = cut_by (λ rest. line_len rest + 2) e

-- a line without its CRLF
unfoldable pub line_text : List ℕ → List ℕ
line_text line = take (line_len line) line

-- ---- the check

-- "each ended by CRLF"
unfoldable pub ended_fault : Rules → Bool → List ℕ → Result ⊤ Fault
ended_fault rules mail line = cond (crlf (drop (line_len line) line)) (line_fault rules mail (line_text line)) (Err Malformed)

-- The fault of line n: "Lines count from 0." "One MAIL line, then 1 to 100 RCPT lines", "the 101st RCPT is malformed".
unfoldable pub fault_of : Rules → ℕ → List ℕ → Result ⊤ Fault
fault_of rules n line = cond (leb n 100) (ended_fault rules (eqb n 0) line) (Err Malformed)

-- the number of the answer: 2 a malformed line, 3 a path that is not ASCII with no ALT-ADDRESS, 4 an ALT-ADDRESS that does not fit, 10 one in a
-- current message
unfoldable pub fault_number : Fault → ℕ
fault_number Malformed = 2
fault_number NoAlternative = 3
fault_number BadAlternative = 4
fault_number RetiredAlternative = 10

-- a line at fault refuses the envelope
abbrev pub refused : Fault → ℕ → Result ℕ FaultAt
refused fault line = Err (record { fault = fault; line = line })

-- the fault of line n, with its number
abbrev pub on_line : ℕ → Result ⊤ Fault → Result ⊤ FaultAt
on_line n (Ok none) = Ok none
on_line n (Err fault) = Err (record { fault = fault; line = n })

-- The number of RCPT lines where line n is missing. "A missing line is malformed at its number, so an empty envelope is 2 at line 0".
unfoldable pub counted : ℕ → Result ℕ FaultAt
counted n = cond (ltb n 2) (refused Malformed n) (Ok (pred n))

-- the lines from line n on: the first at fault, with its fault, or the number of RCPT lines
unfoldable pub checked_from : Rules → ℕ → List (List ℕ) → Result ℕ FaultAt
checked_from rules n [] = counted n
checked_from rules n (line ∷ more) = result_and (on_line n (fault_of rules n line)) (checked_from rules (suc n) more)

unfoldable pub checked : Rules → List ℕ → Result ℕ FaultAt
checked rules e = checked_from rules 0 (lines e)

-- ---- ORCPT

-- the lines without their CRLFs
unfoldable pub texts : List ℕ → List (List ℕ)
texts e = map line_text (lines e)

-- the first line, from line n on, with an ORCPT that carries non-ASCII
unfoldable pub orcpt_from : ℕ → List (List ℕ) → Option ℕ
orcpt_from n [] = None
orcpt_from n (text ∷ more) = let next = orcpt_from (suc n) more in cond (orcpt_fault (eqb n 0) text) (Some n) next

unfoldable pub orcpt_line : List ℕ → Option ℕ
orcpt_line e = orcpt_from 0 (texts e)

-- ---- what is written

-- for a line, with its CRLF
unfoldable pub written_ended : Bool → List ℕ → List ℕ
written_ended mail text = written_line mail text ++ (13 ∷ 10 ∷ [])

-- for each line, one after another
unfoldable pub written_of : List (List ℕ) → List ℕ
written_of [] = []
written_of (mail ∷ rcpts) = written_ended true mail ++ joined (map (written_ended false) rcpts)

unfoldable pub written : List ℕ → List ℕ
written e = written_of (texts e)

-- ---- for the header

-- `<old <new>>` "when the MAIL path was replaced"; empty where not
unfoldable pub mail_of : List (List ℕ) → List ℕ
mail_of [] = []
mail_of (mail ∷ rcpts) = replacement true mail

unfoldable pub mail_replacement : List ℕ → List ℕ
mail_replacement e = mail_of (texts e)

-- the same "when there is exactly one RCPT line and it was replaced"
unfoldable pub only_rcpt_of : List (List ℕ) → List ℕ
only_rcpt_of [] = []
only_rcpt_of (mail ∷ []) = []
only_rcpt_of (mail ∷ rcpt ∷ []) = replacement false rcpt
only_rcpt_of (mail ∷ rcpt ∷ next ∷ more) = []

unfoldable pub rcpt_replacement : List ℕ → List ℕ
rcpt_replacement e = only_rcpt_of (texts e)
