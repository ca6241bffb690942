-- Laws of the outcome, case by case.
use Rattle.std.specs.Prelude.{Ok, Err}
use Rattle.call.specs.OutcomeLaws.{Content}
use Rattle.call.specs.Outcome.{Verdict}
use Rattle.outgoing_header.specs.HeaderContent.{HeaderContent}
use Rattle.outgoing_header.specs.HeaderOutcome.{HeaderVerdict}
use Rattle.std.specs.Prelude.{◌≡◌, refl, List, [], ◌∷◌, ℕ, ◌≤◌, length, Option, None, ⊤, IsErrAnd}
use Rattle.std.proofs.Common.{sym, ap, ◌∙◌, arith}
use Rattle.rules.specs.declared.Rules.{Rules}
use Rattle.outgoing_field.specs.Fate.{limited, held_of}
use Rattle.outgoing_field.proofs.FateLaws.{limited_short}
use Rattle.outgoing_field.specs.Most.{most_of}
use Rattle.outgoing_header.specs.HeaderContent.{with_most as header_with_most}
use Rattle.outgoing_header.specs.HeaderOutcome.{of_held}
use Rattle.envelope.specs.Envelope.{orcpt_line}
use Rattle.outgoing_header.specs.declared.HeaderRefusal.{HeaderRefusal}
use Rattle.call.specs.declared.Refusal.{Refusal}
use Rattle.call.specs.declared.Refusal.TheVariants.{Header}
use Rattle.call.specs.declared.Answer.{Answer}
use Rattle.call.specs.Outcome.{number_of, place_of, offset_of, input_of, of_header, of_orcpt, first_of}
use Rattle.call.specs.OutcomeLaws.{of_content, with_most}

first_one : (v : Verdict) → first_of (v ∷ []) ≡ v
unfolding first_of
first_one (Ok tt) = refl
first_one (Err refusal) = refl

header_content : (v : HeaderVerdict) (n : ℕ) → of_content (header_with_most v n) ≡ with_most (of_header v) n
unfolding of_content header_with_most with_most of_header
header_content (Ok tt) n = refl
header_content (Err refusal) n = refl

pub with_passes : (v : Verdict) (n : ℕ) {m : ℕ} → with_most v n ≡ Ok m → (v ≡ (Ok tt)) × (m ≡ n)
unfolding with_most
with_passes (Ok tt) n {m} e = (refl, let k : m ≡ n = cc in k)
with_passes (Err refusal) n e = absurd (let z : ◌≡◌ {A = ℕ} 0 1 = cc in omega arith)

pub with_fails : (v : Verdict) (n : ℕ) {refusal : Refusal} → with_most v n ≡ Err refusal → v ≡ Err refusal
unfolding with_most
with_fails (Ok tt) n e = absurd (let z : ◌≡◌ {A = ℕ} 0 1 = cc in omega arith)
with_fails (Err r) n {refusal} e = let k : r ≡ refusal = cc in ap Err k

-- what a `?` hands on
pub content_ok : {c : HeaderContent} {most : ℕ} → c ≡ Ok most → Ok most ≡ of_content c
unfolding of_content
content_ok e = rw e refl

pub content_err : {c : HeaderContent} (refusal : HeaderRefusal) (r : Content) → c ≡ Err refusal → IsErrAnd r (λ x. x ≡ Header refusal) → r ≡ of_content c
unfolding of_content
content_err refusal (Ok most) e a = absurd a
content_err refusal (Err other) e a = rw (e, a) refl

-- lines refused, or passed
pub line_content : (more : List Verdict) (n : ℕ) (refusal : HeaderRefusal) (r : Content) {v w : HeaderVerdict} → v ≡ w → v ≡ Err refusal → IsErrAnd r (λ x. x ≡ Header refusal)
    → r ≡ with_most (first_of (of_header w ∷ more)) n
unfolding first_of of_header with_most
line_content more n refusal (Ok most) p k a = absurd a
line_content more n refusal (Err other) p k a = rw (← p, k, a) refl

pub past_lines : (more : List Verdict) (n : ℕ) (r : Content) {v w : HeaderVerdict} {u : ⊤} → v ≡ w → v ≡ Ok u → r ≡ with_most (first_of more) n → r ≡ with_most (first_of (of_header w ∷ more)) n
unfolding first_of of_header
past_lines more n r p k q = rw (← p, k) q

-- held fields of a header within its limit
pub held_content : (rules : Rules) (h : List ℕ) {c : HeaderContent} {r : Content} → length h ≤ 32768
    → c ≡ header_with_most (of_held h (held_of rules (limited h))) (most_of rules (limited h)) → r ≡ of_content c → r ≡ with_most (of_header (of_held h (held_of rules h))) (most_of rules h)
held_content rules h s p q = q ∙ rw (p, limited_short h s) (header_content (of_held h (held_of rules h)) (most_of rules h))

-- where no ORCPT is refused the next verdict decides
pub past_orcpt : (e : List ℕ) (n : ℕ) (next : Verdict) {o : Option ℕ} {c : Content} → o ≡ orcpt_line e → o ≡ None → c ≡ with_most next n
    → c ≡ with_most (first_of (of_orcpt e (orcpt_line e) ∷ next ∷ [])) n
unfolding first_of of_orcpt
past_orcpt e n next p k q = q ∙ rw (← p, k) (ap (λ v. with_most v n) (sym (first_one next)))
