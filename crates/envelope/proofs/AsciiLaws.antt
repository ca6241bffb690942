-- "Out: an ASCII envelope": what is written for an envelope that passes the check, in which no ORCPT carries non-ASCII, is ASCII.
use Rattle.std.specs.Prelude.{◌≡◌, refl, Bool, true, false, cond, List, [], ◌∷◌, map, ℕ, suc, T, Ok, Option, Some, None}
use Rattle.std.proofs.Common.{arith}
use Rattle.std.proofs.Math.Dec.{eqb-suc-zero}
use Rattle.lists.specs.Lists.{all, joined}
use Rattle.lists.specs.ListsLaws.{all_append}
use Rattle.lists.specs.Byte.{is_ascii}
use Rattle.rules.specs.declared.Rules.{Rules}
use Rattle.envelope_line.specs.EnvelopeLine.{orcpt_fault, written_line}
use Rattle.envelope_line.proofs.AsciiLaws.{line_ascii}
use Rattle.envelope.specs.Envelope.{lines, line_text, ended_fault, checked, texts, orcpt_from, orcpt_line, written_ended, written_of, written}
use Rattle.envelope.proofs.CheckLaws.{ended_fine}
use Rattle.envelope.proofs.PassedLaws.{RcptsFine, LinesFine, passed_fine}

-- no ORCPT at fault in a line, and none in the lines after it
line_clean : (r : Bool) (n : ℕ) (more : Option ℕ) → cond r (Some n) more ≡ None → (r ≡ false) × (more ≡ None)
line_clean true n more e = absurd (let z : ◌≡◌ {A = ℕ} 0 1 = cc in omega arith)
line_clean false n more e = (refl, e)

ended_ascii : (rules : Rules) (mail : Bool) (line : List ℕ) → ended_fault rules mail line ≡ Ok tt → orcpt_fault mail (line_text line) ≡ false → T (all is_ascii (written_ended mail (line_text line)))
unfolding written_ended
ended_ascii rules mail line f o = all_append is_ascii (written_line mail (line_text line)) (13 ∷ 10 ∷ []) (line_ascii rules mail (line_text line) (ended_fine rules mail line f) o) tt

rcpts_ascii : (rules : Rules) (n : ℕ) (rcpts : List (List ℕ)) → RcptsFine rules rcpts → orcpt_from (suc n) (map line_text rcpts) ≡ None → T (all is_ascii (joined (map (written_ended false) (map line_text rcpts))))
unfolding orcpt_from
rcpts_ascii rules n [] f o = tt
rcpts_ascii rules n (line ∷ more) f o =
    let clean = line_clean (orcpt_fault false (line_text line)) (suc n) (orcpt_from (suc (suc n)) (map line_text more)) (rw (eqb-suc-zero n) at o) in
    all_append is_ascii (written_ended false (line_text line)) (joined (map (written_ended false) (map line_text more)))
    (ended_ascii rules false line f.0 clean.0) (rcpts_ascii rules (suc n) more f.1 clean.1)

lines_ascii : (rules : Rules) (ls : List (List ℕ)) → LinesFine rules ls → orcpt_from 0 (map line_text ls) ≡ None → T (all is_ascii (written_of (map line_text ls)))
unfolding orcpt_from written_of
lines_ascii rules [] f o = tt
lines_ascii rules (mail ∷ rcpts) f o =
    let clean = line_clean (orcpt_fault true (line_text mail)) 0 (orcpt_from 1 (map line_text rcpts)) o in
    all_append is_ascii (written_ended true (line_text mail)) (joined (map (written_ended false) (map line_text rcpts)))
    (ended_ascii rules true mail f.0 clean.0) (rcpts_ascii rules 0 rcpts f.1 clean.1)

pub written_ascii : (rules : Rules) (e : List ℕ) (m : ℕ) → checked rules e ≡ Ok m → orcpt_line e ≡ None → T (all is_ascii (written e))
unfolding written orcpt_line texts
written_ascii rules e m p o = lines_ascii rules (lines e) (passed_fine rules e m p) o
