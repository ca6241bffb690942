-- A header buffer that always suffices.
use Rattle.std.specs.Prelude.{◌≡◌, List, ℕ, ◌+◌, ◌*◌, ◌≤◌, length}
use Rattle.std.proofs.Common.{arith}
use Rattle.outgoing_field.specs.Most.{most_of}
use Rattle.outgoing_field.proofs.MostLaws.{between}
use Rattle.call.specs.OutgoingHeader.{new_fields_most}
use Rattle.call.proofs.OutputLaws.{outgoing_le}
use Rattle.rules.specs.declared.Rules.{Rules}
use Rattle.demands.proofs.DemandsLaws.{refusal_number, downgraded_passes, downgraded_header}
use Rattle.demands.specs.Demands.{Given}
use Rattle.demands.specs.Demands.Given.{envelope_over, header_over, envelope_malformed, line_refused, header_malformed, orcpt_non_ascii, held_non_ascii, envelope_longer, header_longer, none_holds}

-- With room for the most that a header can become, and 20,600 bytes for the new first fields, the answer 8 is never given.
pub never_eight : (rules : Rules) (e h b c : List ℕ) → most_of rules h + new_fields_most ≤ length c → {number input place offset : ℕ} → Given rules e h b c number input place offset → number ≡ 8 → ⊥
never_eight rules e h b c r (envelope_over k) z = omega arith
never_eight rules e h b c r (header_over k l) z = omega arith
never_eight rules e h b c r (envelope_malformed s t k ls m f) z = omega arith
never_eight rules e h b c r (line_refused more s t k ls m f) z = refusal_number f z (omega arith) (omega arith) (omega arith)
never_eight rules e h b c r (header_malformed p m) z = omega arith
never_eight rules e h b c r (orcpt_non_ascii more p q k ls l m) z = omega arith
never_eight rules e h b c r (held_non_ascii p q m) z = omega arith
never_eight rules e h b c r (envelope_longer d k) z = omega arith
never_eight rules e h b c r (header_longer d k l) z =
    let p = downgraded_passes rules e h d in
    omega (arith, rw (downgraded_header rules e h d) at l, outgoing_le rules e h p.recipients p.envelope p.limits.1 p.header)
never_eight rules e h b c r (none_holds d k l) z = omega arith

-- The same by the length of the header: 80 bytes for one, and 20,600.
pub never_eight_for : (rules : Rules) (e h b c : List ℕ) → 80 * length h + 20600 ≤ length c → {number input place offset : ℕ} → Given rules e h b c number input place offset → number ≡ 8 → ⊥
unfolding new_fields_most
never_eight_for rules e h b c r = never_eight rules e h b c (omega (arith, (between rules h).greatest))
