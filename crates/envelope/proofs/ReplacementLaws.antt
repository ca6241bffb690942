-- The texts for the header, of an envelope that passes the check: they are UTF-8, and short, and there is none where an ALT-ADDRESS is refused.
use Rattle.std.specs.Prelude.{◌≡◌, Bool, not, ℕ, ◌≤◌, Ok}
use Rattle.std.proofs.Math.Path.{refl}
use Rattle.std.proofs.Math.Bool.{true, false}
use mathlib.Core.List.{List, [], ◌∷◌, map}
use Rattle.std.proofs.Common.{arith}
use Rattle.std.proofs.Math.Dec.{T}
use Rattle.std.proofs.Math.ListN.{length}
use Rattle.utf8.specs.Utf8.{utf8}
use Rattle.utf8.specs.Utf8Laws.{utf8_ascii}
use Rattle.rules.specs.declared.Rules.{Rules}
use Rattle.rules.specs.Rules.{allows_alternative}
use Rattle.envelope_line.specs.EnvelopeLine.{line_fault, replacement}
use Rattle.envelope_line.proofs.ReplacementLaws.{replacement_short, replacement_utf8, retired_none}
use Rattle.envelope.specs.Envelope.{lines, line_text, checked, texts, mail_of, mail_replacement, only_rcpt_of, rcpt_replacement}
use Rattle.envelope.proofs.CheckLaws.{ended_fine}
use Rattle.envelope.proofs.PassedLaws.{LinesFine, passed_fine}

-- what holds of no text and of the replacement of each line without fault
module _ (rules : Rules) (P : List ℕ → Type 0) (none : P []) (some : (mail : Bool) (text : List ℕ) → line_fault rules mail text ≡ Ok tt → P (replacement mail text)) where
  of_mail : (ls : List (List ℕ)) → LinesFine rules ls → P (mail_of (map line_text ls))
  unfolding mail_of
  of_mail [] f = none
  of_mail (mail ∷ rcpts) f = some true (line_text mail) (ended_fine rules true mail f.0)

  of_rcpt : (ls : List (List ℕ)) → LinesFine rules ls → P (only_rcpt_of (map line_text ls))
  unfolding only_rcpt_of
  of_rcpt [] f = none
  of_rcpt (mail ∷ []) f = none
  of_rcpt (mail ∷ rcpt ∷ []) f = some false (line_text rcpt) (ended_fine rules false rcpt f.1.0)
  of_rcpt (mail ∷ rcpt ∷ next ∷ more) f = none

module _ (rules : Rules) (e : List ℕ) (m : ℕ) (p : checked rules e ≡ Ok m) where
  pub mail_replacement_short : length (mail_replacement e) ≤ 2001
  unfolding mail_replacement texts
  mail_replacement_short = of_mail rules (λ text. length text ≤ 2001) (omega arith) (replacement_short rules) (lines e) (passed_fine rules e m p)

  pub mail_replacement_utf8 : T (utf8 (mail_replacement e))
  unfolding mail_replacement texts
  mail_replacement_utf8 = of_mail rules (λ text. T (utf8 text)) (utf8_ascii [] tt) (replacement_utf8 rules) (lines e) (passed_fine rules e m p)

  pub rcpt_replacement_short : length (rcpt_replacement e) ≤ 2001
  unfolding rcpt_replacement texts
  rcpt_replacement_short = of_rcpt rules (λ text. length text ≤ 2001) (omega arith) (replacement_short rules) (lines e) (passed_fine rules e m p)

  pub rcpt_replacement_utf8 : T (utf8 (rcpt_replacement e))
  unfolding rcpt_replacement texts
  rcpt_replacement_utf8 = of_rcpt rules (λ text. T (utf8 text)) (utf8_ascii [] tt) (replacement_utf8 rules) (lines e) (passed_fine rules e m p)

  module _ (n : T (not (allows_alternative rules))) where
    pub mail_replacement_none : mail_replacement e ≡ []
    unfolding mail_replacement texts
    mail_replacement_none = of_mail rules (λ text. text ≡ []) refl (λ mail text f. retired_none rules mail text f n) (lines e) (passed_fine rules e m p)

    pub rcpt_replacement_none : rcpt_replacement e ≡ []
    unfolding rcpt_replacement texts
    rcpt_replacement_none = of_rcpt rules (λ text. text ≡ []) refl (λ mail text f. retired_none rules mail text f n) (lines e) (passed_fine rules e m p)
