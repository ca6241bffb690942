-- What the reader shows of a header that a call of ours wrote.
use Rattle.std.specs.Prelude.{◌≡◌, refl, List, ◌∷◌, ◌++◌, ℕ, ◌≤◌, length, take}
use Rattle.std.proofs.Common.{ap, sym, ◌∙◌, arith, length-take-le}
use Rattle.buffer.specs.BufferLaws.{overlay_front}
use Rattle.encoded_word.specs.Segments.{Segment, rendered}
use Rattle.encoded_word.specs.Segments.Segment.{labelled}
use Rattle.rules.specs.declared.Rules.{Rules}
use Rattle.rules.specs.declared.Rules.TheVariants.{Mailbox}
use Rattle.call.specs.declared.Answer.{Answer}
use Rattle.outgoing_field.specs.Fate.{header_segments}
use Rattle.outgoing_header.specs.declared.HeaderAnswer.{HeaderAnswer}
use Rattle.downgraded_reader.specs.declared.ReadAnswer.{ReadAnswer}
use Rattle.downgraded_reader.specs.Reader.{Outcome, outcome, observed}
use Rattle.reader_grammar.specs.ReaderGrammar.{Reads}
use Rattle.reader_grammar.specs.ReaderGrammarLaws.{reads}
use Rattle.downgraded_row.specs.ReadBackLaws.{WrittenFields, reads_back}
use Rattle.demands.specs.Downgraded.{Downgraded, HeaderBecomes}
use Rattle.demands.specs.Downgraded.HeaderBecomes.{all_become}
use Rattle.demands.specs.Demands.{KeptPast, Demands}
use Rattle.demands.proofs.DemandsLaws.{downgraded_passes, downgraded_segments}
use Rattle.demands.specs.MailboxDemands.{MailboxDemands}
use Rattle.demands.proofs.HeaderLaws.{lines_header}
use Rattle.demands.proofs.BecomesLaws.{fields_exact}
use Rattle.read_back.specs.ReadBack.{ReadsBack}
use Rattle.read_back.specs.Calls.{outcome_after}
use Rattle.read_back.specs.CallsLaws.{call_at, call_is}
use Rattle.read_back.specs.WrittenLaws.{outgoing_written, header_written_lem}

-- ---- the header written, as a part of its buffer

module _ {len : ℕ} {before after : List ℕ} (k : KeptPast len before after) where
  pub part_inside : len ≤ length after
  part_inside = omega (arith, k.inside, k.size)

  pub part_size : len ≡ length (take len after)
  part_size = sym (length-take-le len after part_inside)

-- ---- over any segments that are written fields

module _ {Written : List Segment → Type 0} {h' : List ℕ} (right : (ss : List Segment) → Written ss → WrittenFields ss × (h' ≡ rendered ss)) where
  pub all_shown : {k : ℕ} {t t' : List ℕ} {a : ReadAnswer} → observed a t' ≡ outcome_after h' 0 t k → ReadsBack Written k t a t'
  all_shown {k} {t} {t'} {a} e = record {
    shown = λ before label text after w d n room.
        let r = right (before ++ (labelled label text ∷ after)) w in
        let s = rw (← r.1) at (reads_back r.0 before label text after refl d) in
        let c = call_at t (rw (← n) at s.reached) in
        let size : length text ≤ length c.buffer = rw c.size room in
        let o = e ∙ call_is c ∙ s.outcome_is c.buffer size in
        let length_is = ap (λ (x : Outcome). x.size) o in
        (ap (λ (x : Outcome). x.number) o, ap (λ (x : Outcome). x.start) o, length_is, rw (length_is, ap (λ (x : Outcome). x.buffer) o) (overlay_front text c.buffer size));
  }

-- ---- the call

module _ {rules : Rules} {e h b c : List ℕ} {r : Answer} {b' c' : List ℕ} (d : Demands rules e h b c r b' c') (z : r.number ≡ 0) where
  pub downgraded_shown : {k : ℕ} {t t' : List ℕ} {a : ReadAnswer} → observed a t' ≡ outcome_after (take r.header_len c') 0 t k
      → ReadsBack (Downgraded rules e h (take r.envelope_len b')) k t a t'
  downgraded_shown o = all_shown right o
    where
      right : (ss : List Segment) → Downgraded rules e h (take r.envelope_len b') ss → WrittenFields ss × (take r.header_len c' ≡ rendered ss)
      right ss w =
          let two = d.demand_2 z in
          let p = downgraded_passes rules e h w in
          let is = downgraded_segments rules e h w in
          (rw is (outgoing_written rules e h p.recipients p.envelope p.header), two.header ∙ ap rendered (downgraded_segments rules e h two.downgraded ∙ sym is))

-- ---- the call for a mailbox

mailbox_lines : {h : List ℕ} {ss : List Segment} → HeaderBecomes Mailbox h ss → WrittenFields (header_segments Mailbox h) × (ss ≡ header_segments Mailbox h)
mailbox_lines {h} (all_become ls fs) = (header_written_lem Mailbox h (lines_header ls), (fields_exact h fs).1)

module _ {h c : List ℕ} {r : HeaderAnswer} {c' : List ℕ} (d : MailboxDemands h c r c') (z : r.number ≡ 0) where
  pub mailbox_shown : {k : ℕ} {t t' : List ℕ} {a : ReadAnswer} → observed a t' ≡ outcome_after (take r.length c') 0 t k → ReadsBack (HeaderBecomes Mailbox h) k t a t'
  mailbox_shown o = all_shown right o
    where
      right : (ss : List Segment) → HeaderBecomes Mailbox h ss → WrittenFields ss × (take r.length c' ≡ rendered ss)
      right ss w =
          let two = d.demand_2 z in
          let m = mailbox_lines w in
          (rw m.1 m.0, two.header ∙ ap rendered ((mailbox_lines two.becomes).1 ∙ sym m.1))

-- ---- the reader's call by its rules

pub read_by_rules : {h : List ℕ} {place : ℕ} {t t' : List ℕ} {a : ReadAnswer} → observed a t' ≡ outcome h place t → Reads h place t (observed a t')
read_by_rules {h} {place} {t} e = rw e (reads h place t)
