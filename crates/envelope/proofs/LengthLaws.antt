-- What is written for an envelope that passes the check is no longer than the envelope.
use Rattle.std.specs.Prelude.{◌≡◌, Bool, true, false, List, [], ◌∷◌, map, ℕ, ◌≤◌, length, Ok}
use Rattle.std.proofs.Common.{arith, length-append, length-take}
use Rattle.lists.specs.Lists.{joined}
use Rattle.line.specs.Line.{line_len}
use Rattle.rules.specs.declared.Rules.{Rules}
use Rattle.envelope_line.proofs.ReplacementLaws.{written_short}
use Rattle.envelope.specs.Envelope.{lines, line_text, ended_fault, checked, texts, written_ended, written_of, written}
use Rattle.envelope.proofs.LinesLaws.{lines_joined}
use Rattle.envelope.proofs.CheckLaws.{ended_inside, ended_fine}
use Rattle.envelope.proofs.PassedLaws.{RcptsFine, LinesFine, passed_fine}

ended_le : (rules : Rules) (mail : Bool) (line : List ℕ) → ended_fault rules mail line ≡ Ok tt → length (written_ended mail (line_text line)) ≤ length line
unfolding written_ended line_text
ended_le rules mail line f =
    rw length-append (omega (arith, written_short rules mail (line_text line) (ended_fine rules mail line f), length-take (line_len line) line, ended_inside rules mail line f))

rcpts_le : (rules : Rules) (rcpts : List (List ℕ)) → RcptsFine rules rcpts → length (joined (map (written_ended false) (map line_text rcpts))) ≤ length (joined rcpts)
rcpts_le rules [] f = omega arith
rcpts_le rules (line ∷ more) f = rw (length-append, length-append) (omega (arith, ended_le rules false line f.0, rcpts_le rules more f.1))

lines_le : (rules : Rules) (ls : List (List ℕ)) → LinesFine rules ls → length (written_of (map line_text ls)) ≤ length (joined ls)
unfolding written_of
lines_le rules [] f = omega arith
lines_le rules (mail ∷ rcpts) f = rw (length-append, length-append) (omega (arith, ended_le rules true mail f.0, rcpts_le rules rcpts f.1))

pub written_le : (rules : Rules) (e : List ℕ) (m : ℕ) → checked rules e ≡ Ok m → length (written e) ≤ length e
unfolding written texts
written_le rules e m p = rw (lines_joined e) at (lines_le rules (lines e) (passed_fine rules e m p))
