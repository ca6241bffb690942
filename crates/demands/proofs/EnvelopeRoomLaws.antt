-- An envelope buffer that always suffices.
use Rattle.std.specs.Prelude.{◌≡◌, List, ℕ, ◌≤◌, ◌<◌, length}
use Rattle.std.proofs.Common.{arith}
use Rattle.envelope.proofs.LengthLaws.{written_le}
use Rattle.rules.specs.declared.Rules.{Rules}
use Rattle.demands.proofs.DemandsLaws.{refusal_number, downgraded_passes, downgraded_out}
use Rattle.demands.specs.Demands.{Given}
use Rattle.demands.specs.Demands.Given.{envelope_over, header_over, envelope_malformed, line_refused, header_malformed, orcpt_non_ascii, held_non_ascii, envelope_longer, header_longer, none_holds}

-- where 7 is given, the buffer is shorter than the envelope, and the envelope within its limit
seven : (rules : Rules) (e h b c : List ℕ) {number input place offset : ℕ} → Given rules e h b c number input place offset → number ≡ 7 → (length b < length e) × (length e ≤ 16384)
seven rules e h b c (envelope_over k) z = absurd (omega arith)
seven rules e h b c (header_over k l) z = absurd (omega arith)
seven rules e h b c (envelope_malformed s t k ls m f) z = absurd (omega arith)
seven rules e h b c (line_refused more s t k ls m f) z = absurd (refusal_number f z (omega arith) (omega arith) (omega arith))
seven rules e h b c (header_malformed p m) z = absurd (omega arith)
seven rules e h b c (orcpt_non_ascii more p q k ls l m) z = absurd (omega arith)
seven rules e h b c (held_non_ascii p q m) z = absurd (omega arith)
seven rules e h b c (envelope_longer d k) z =
    let p = downgraded_passes rules e h d in
    (omega (arith, rw (downgraded_out rules e h d) at k, written_le rules e p.recipients p.envelope), p.limits.0)
seven rules e h b c (header_longer d k l) z = absurd (omega arith)
seven rules e h b c (none_holds d k l) z = absurd (omega arith)

-- With room for as many bytes as the envelope has, the answer 7 is never given.
pub never_seven : (rules : Rules) (e h b c : List ℕ) → length e ≤ length b → {number input place offset : ℕ} → Given rules e h b c number input place offset → number ≡ 7 → ⊥
never_seven rules e h b c k g z = omega (arith, (seven rules e h b c g z).0)

-- Nor is it with room for an envelope at the limit.
pub never_seven_at_limit : (rules : Rules) (e h b c : List ℕ) → 16384 ≤ length b → {number input place offset : ℕ} → Given rules e h b c number input place offset → number ≡ 7 → ⊥
never_seven_at_limit rules e h b c k g z = let s = seven rules e h b c g z in omega (arith, s.0, s.1)
