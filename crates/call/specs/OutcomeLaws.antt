-- Laws of the outcome, case by case.
use Rattle.std.specs.Prelude.{Ok, Err}
use Rattle.call.specs.Outcome.{Verdict}
use Rattle.outgoing_header.specs.HeaderContent.{HeaderContent}
use Rattle.std.specs.Prelude.{◌≡◌, refl, List, [], ◌∷◌, ℕ, ◌≤◌, length, Result}
use Rattle.std.proofs.Common.{sym, ap, ◌∙◌, arith}
use Rattle.rules.specs.declared.Rules.{Rules}
use Rattle.outgoing_field.specs.Fate.{limited, held_of}
use Rattle.outgoing_field.proofs.FateLaws.{limited_short}
use Rattle.outgoing_field.specs.Most.{most_of}
use Rattle.outgoing_header.specs.HeaderContent.{with_most as header_with_most}
use Rattle.outgoing_header.specs.HeaderOutcome.{of_held}
use Rattle.envelope.specs.Envelope.{orcpt_line}
use Rattle.call.specs.declared.Refusal.{Refusal}
use Rattle.call.specs.declared.Refusal.TheVariants.{Header}
use Rattle.call.specs.declared.Answer.{Answer}
use Rattle.call.specs.Outcome.{number_of, place_of, offset_of, input_of, of_header, of_orcpt, first_of}

-- what a refused call answers
pub record RefusedBy (refusal : Refusal) (answer : Answer) : Type 0 where
  pub number : answer.number ≡ number_of refusal
  pub input : answer.input ≡ input_of refusal
  pub place : answer.place ≡ place_of refusal
  pub offset : answer.offset ≡ offset_of refusal
  pub none₁ : answer.envelope_len ≡ 0
  pub none₂ : answer.header_len ≡ 0

-- ---- a verdict with the most of a header, as code finds both

abbrev pub Content : Type 0
Content = Result ℕ Refusal

unfoldable pub with_most : Verdict → ℕ → Content
with_most (Ok tt) most = Ok most
with_most (Err refusal) most = Err refusal

unfoldable pub of_content : HeaderContent → Content
of_content (Ok most) = Ok most
of_content (Err refusal) = Err (Header refusal)
