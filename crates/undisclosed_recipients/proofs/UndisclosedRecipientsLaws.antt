-- That no recipient learns of another: of the recipients the outgoing header depends on whether there is exactly one.
use Rattle.std.specs.Prelude.{◌≡◌, refl, ◌||◌, List, [], ◌∷◌, ℕ, ◌/◌, ◌≤◌, ◌<◌, length, take, drop, get_or}
use Rattle.std.proofs.Common.{ap, sym, ◌∙◌, arith}
use Rattle.lists.specs.ListsLaws.{cond_has}
use Rattle.rules.specs.declared.Rules.{Rules}
use Rattle.envelope.specs.Envelope.{rcpt_replacement}
use Rattle.undisclosed_recipients.proofs.FirstLineLaws.{same_mail, several_rcpts}
use Rattle.call.specs.OutgoingHeader.{new_fields, outgoing_segments, outgoing_header}
use Rattle.call.specs.declared.Answer.{Answer}
use Rattle.call.specs.Outcome.{Outcome, outcome, observed}
use Rattle.batch.specs.Batch.{Batch, past_end, range_refused, range_outcome, record_outcome, batch}
use Rattle.batch.specs.BatchRecords.{from_record, envelope_of, header_of, used₁, used₂}
use Rattle.batch.specs.BatchRecordsLaws.{batch_done}
use Rattle.demands.proofs.DemandsLaws.{header_out, answer_of, header_left}
use Rattle.undisclosed_recipients.specs.UndisclosedRecipients.{each_ended, SameSender, Undisclosed, number_at, header_len_at, header_bytes_at, UndisclosedRecords}

none_replaced : (mail : List ℕ) (rcpts : List (List ℕ)) → 2 ≤ length rcpts → rcpt_replacement (each_ended (mail ∷ rcpts)) ≡ []
none_replaced mail [] k = absurd (omega arith)
none_replaced mail (rcpt ∷ []) k = absurd (omega arith)
none_replaced mail (rcpt ∷ next ∷ more) k = several_rcpts mail rcpt next (each_ended more)

same_new_fields : (e f : List ℕ) → SameSender e f → new_fields e ≡ new_fields f
unfolding new_fields
same_new_fields e f s =
    rw (s.envelope, s.other_envelope, none_replaced s.mail s.rcpts s.several, none_replaced s.mail s.others s.other_several, same_mail s.mail (each_ended s.rcpts) (each_ended s.others))

-- the outgoing header depends on the MAIL line, on whether there is exactly one recipient, on the header and on the rules
pub same_outgoing : (rules : Rules) (e f h : List ℕ) → SameSender e f → outgoing_header rules e h ≡ outgoing_header rules f h
unfolding outgoing_header outgoing_segments
same_outgoing rules e f h s = rw (same_new_fields e f s)

-- the same of two outcomes that answer 0
same_header : (rules : Rules) (e f h b c b' c' : List ℕ) → SameSender e f → (outcome rules e h b c).number ≡ 0 → (outcome rules f h b' c').number ≡ 0
    → ((outcome rules e h b c).header_len ≡ (outcome rules f h b' c').header_len) × (header_out (outcome rules e h b c) ≡ header_out (outcome rules f h b' c'))
same_header rules e f h b c b' c' s z z' =
    let o = header_left rules e h b c z in
    let p = header_left rules f h b' c' z' in
    (o.0 ∙ ap length (same_outgoing rules e f h s) ∙ sym p.0, o.1 ∙ same_outgoing rules e f h s ∙ sym p.1)

-- ---- records of batches

-- the call for a record that is answered 0
record Called (rules : Rules) (input records : List ℕ) (o : Batch) (k : ℕ) : Type 0 where
  pub b : List ℕ
  pub c : List ℕ
  pub number : (outcome rules (envelope_of input (from_record k records)) (header_of input (from_record k records)) b c).number ≡ 0
  pub len : header_len_at o k ≡ (outcome rules (envelope_of input (from_record k records)) (header_of input (from_record k records)) b c).header_len
  pub bytes : header_bytes_at o k ≡ take (outcome rules (envelope_of input (from_record k records)) (header_of input (from_record k records)) b c).header_len (outcome rules (envelope_of input (from_record k records)) (header_of input (from_record k records)) b c).header_buffer

-- 9 is not 0
record_call : (rules : Rules) (input records b c : List ℕ) (k : ℕ) → (record_outcome rules input (from_record k records) b c).number ≡ 0
    → record_outcome rules input (from_record k records) b c ≡ outcome rules (envelope_of input (from_record k records)) (header_of input (from_record k records)) b c
unfolding record_outcome range_outcome range_refused
record_call rules input records b c k z =
    let r = from_record k records in
    let call = outcome rules (envelope_of input (from_record k records)) (header_of input (from_record k records)) b c in
    cond_has (λ (o : Outcome). o.number ≡ 0 → o ≡ call) (past_end input (get_or r 0 0) (get_or r 1 0) || past_end input (get_or r 2 0) (get_or r 3 0)) (range_refused b c) call
    (λ t y. absurd (omega arith))
    (λ t y. refl) z

called : (rules : Rules) (input records b c : List ℕ) (k : ℕ) → k < length records / 9 → number_at (batch rules input records b c) k ≡ 0
    → Called rules input records (batch rules input records b c) k
called rules input records b c k there z =
    let o = batch rules input records b c in
    let d = (batch_done rules input records b c).each k there in
    let b' : List ℕ = drop (used₁ k o) b in
    let c' : List ℕ = drop (used₂ k o) c in
    let zero = sym d.number ∙ z in
    let is = record_call rules input records b' c' k zero in
    record {
      b = b';
      c = c';
      number = rw (← is) zero;
      len = rw (← is) d.header_len_lem;
      bytes = rw (← is, d.header_len_lem) d.header;
    }

pub undisclosed_records : (rules : Rules) (input records b c input' records' b' c' : List ℕ)
    → UndisclosedRecords input records (batch rules input records b c) input' records' (batch rules input' records' b' c')
undisclosed_records rules input records b c input' records' b' c' = record {
  same = λ k l e f h s x y.
      let o = called rules input records b c k x.there x.number in
      let p = called rules input' records' b' c' l y.there y.number in
      let sender : SameSender (envelope_of input (from_record k records)) (envelope_of input' (from_record l records')) = rw (x.envelope, y.envelope) s in
      let one : header_of input (from_record k records) ≡ header_of input' (from_record l records') = x.header ∙ sym y.header in
      let same = same_header rules (envelope_of input (from_record k records)) (envelope_of input' (from_record l records')) (header_of input (from_record k records)) o.b o.c p.b p.c sender o.number
      (rw one p.number) in
      (o.len ∙ same.0 ∙ rw one (sym p.len), o.bytes ∙ same.1 ∙ rw one (sym p.bytes));
}

-- ---- of whatever the calls leave

module _ (rules : Rules) where
  pub undisclosed_by : (e f h b c b' c' : List ℕ) {r s : Answer} {d d' k k' : List ℕ} → observed r d k ≡ outcome rules e h b c → observed s d' k' ≡ outcome rules f h b' c'
      → Undisclosed e f r k s k'
  undisclosed_by e f h b c b' c' {r} {s} {d} {d'} {k} {k'} q p = by_outcome (observed r d k) (observed s d' k') q p
    where
      by_outcome : (o o' : Outcome) → o ≡ outcome rules e h b c → o' ≡ outcome rules f h b' c' → Undisclosed e f (answer_of o) o.header_buffer (answer_of o') o'.header_buffer
      by_outcome o o' q p = record {
        same = λ t z z'. let m = same_header rules e f h b c b' c' t (rw q at z) (rw p at z') in rw (q, p) (record { len = m.0; bytes = m.1 });
      }

  pub records_undisclosed_by : (input records b c : List ℕ) {o : Batch} → o ≡ batch rules input records b c → UndisclosedRecords input records o input records o
  records_undisclosed_by input records b c q = rw q (undisclosed_records rules input records b c input records b c)
