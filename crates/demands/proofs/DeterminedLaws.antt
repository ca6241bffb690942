-- The demands leave nothing open: what meets them is observed as the outcome. So no program that refuses all, answers a fixed envelope, writes
-- nothing or invents lengths meets them.
use Rattle.std.specs.Prelude.{◌≡◌, refl, List, ℕ, eqb}
use Rattle.std.proofs.Common.{sym, ◌∙◌, eqb→eq}
use Rattle.std.proofs.Math.Facts.{eqb_no}
use Rattle.lists.specs.ListsLaws.{by_test}
use Rattle.rules.specs.declared.Rules.{Rules}
use Rattle.call.specs.declared.Answer.{Answer}
use Rattle.call.specs.Outcome.{Outcome, outcome, observed}
use Rattle.demands.specs.Demands.{Demands}
use Rattle.demands.proofs.KeptLaws.{same_buffer, same_length, untouched}
use Rattle.demands.proofs.DemandsLaws.{envelope_out, header_out, downgraded_out, downgraded_header, OutcomeDemands, demands}

same_outcome : {o p : Outcome} → o.number ≡ p.number → o.input ≡ p.input → o.place ≡ p.place → o.offset ≡ p.offset → o.envelope_len ≡ p.envelope_len → o.header_len ≡ p.header_len
    → o.envelope_buffer ≡ p.envelope_buffer → o.header_buffer ≡ p.header_buffer → o ≡ p
same_outcome {o} {p} a i b k c d e f = same
  where
    made : ℕ → ℕ → ℕ → ℕ → ℕ → ℕ → List ℕ → List ℕ → Outcome
    made n i q k l m x y = record { number = n; input = i; place = q; offset = k; envelope_len = l; header_len = m; envelope_buffer = x; header_buffer = y }

    same : made o.number o.input o.place o.offset o.envelope_len o.header_len o.envelope_buffer o.header_buffer
        ≡ made p.number p.input p.place p.offset p.envelope_len p.header_len p.envelope_buffer p.header_buffer
    same = rw (a, i, b, k, c, d, e, f)

module _ (rules : Rules) (e h b c : List ℕ) (r : Answer) (b' c' : List ℕ) (d : Demands rules e h b c r b' c') where
  abbrev o : Outcome
  o = observed r b' c'

  meets : OutcomeDemands rules e h b c (outcome rules e h b c)
  meets = demands rules e h b c

  numbers : (o.number ≡ (outcome rules e h b c).number) × (o.input ≡ (outcome rules e h b c).input) × (o.place ≡ (outcome rules e h b c).place) × (o.offset ≡ (outcome rules e h b c).offset)
  numbers = meets.demand_1.exact o.number o.input o.place o.offset d.demand_1.answered

  after_zero : o.number ≡ 0 → o ≡ outcome rules e h b c
  after_zero z =
      let p = outcome rules e h b c in
      let y : p.number ≡ 0 = sym numbers.0 ∙ z in
      let mine = d.demand_2 z in
      let theirs = meets.demand_2 y in
      let mine_1 = d.demand_1 in
      let theirs_1 = meets.demand_1 in
      let text₁ : envelope_out o ≡ envelope_out p = downgraded_out rules e h mine.downgraded ∙ sym (downgraded_out rules e h theirs.downgraded) in
      let text₂ : header_out o ≡ header_out p =
      mine.header ∙ downgraded_header rules e h mine.downgraded ∙ sym (theirs.header ∙ downgraded_header rules e h theirs.downgraded) in
      let len₁ : o.envelope_len ≡ p.envelope_len = same_length mine_1.envelope_kept theirs_1.envelope_kept text₁ in
      let len₂ : o.header_len ≡ p.header_len = same_length mine_1.header_kept theirs_1.header_kept text₂ in
      same_outcome numbers.0 numbers.1 numbers.2 numbers.3 len₁ len₂
      (same_buffer _ b _ _ text₁ mine_1.envelope_kept ∙ rw len₁ (sym (same_buffer _ b _ _ refl theirs_1.envelope_kept)))
      (same_buffer _ c _ _ text₂ mine_1.header_kept ∙ rw len₂ (sym (same_buffer _ c _ _ refl theirs_1.header_kept)))

  after_refusal : (o.number ≡ 0 → ⊥) → o ≡ outcome rules e h b c
  after_refusal z =
      let p = outcome rules e h b c in
      let mine = d.demand_1.refusal z in
      let theirs = meets.demand_1.refusal (λ y. z (numbers.0 ∙ y)) in
      let len₁ : o.envelope_len ≡ p.envelope_len = mine.0 ∙ sym theirs.0 in
      let len₂ : o.header_len ≡ p.header_len = mine.1 ∙ sym theirs.1 in
      same_outcome numbers.0 numbers.1 numbers.2 numbers.3 len₁ len₂
      (untouched mine.0 d.demand_1.envelope_kept ∙ sym (untouched theirs.0 meets.demand_1.envelope_kept))
      (untouched mine.1 d.demand_1.header_kept ∙ sym (untouched theirs.1 meets.demand_1.header_kept))

  pub determined : observed r b' c' ≡ outcome rules e h b c
  determined = by_test (eqb o.number 0) (λ t. after_zero (eqb→eq o.number 0 t)) (λ t. after_refusal (eqb_no {a = o.number} {b = 0} t))
