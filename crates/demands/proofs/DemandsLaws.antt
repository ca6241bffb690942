-- The three demands hold of the outcome.
use Rattle.call.specs.Outcome.{Verdict}
use Rattle.std.specs.Prelude.{◌≡◌, ◌≢◌, Bool, true, not, List, [], ◌∷◌, ◌++◌, T, eqb, ltb, take, Ok, Err, Result, Option, Some, None}
use Rattle.std.proofs.Math.Path.{refl, sym, ap}
use Rattle.std.proofs.Common.{◌∙◌, append-nil, arith, eqb→eq}
use Prim.Native.Nat.{ℕ, suc, pred, ◌≤◌}
use Rattle.std.proofs.Math.ListN.{length}
use Rattle.std.proofs.Math.Facts.{ltb_yes, ltb_no, eqb_no}
use Rattle.lists.specs.Byte.{is_ascii}
use Rattle.utf8.specs.Utf8.{utf8}
use Rattle.lists.specs.Lists.{all}
use Rattle.lists.specs.ListsLaws.{by_test, all_append}
use Rattle.buffer.specs.Buffer.{overlay}
use Rattle.buffer.specs.BufferLaws.{overlay_front}
use Rattle.encoded_word.specs.Segments.{Segment, rendered, sound}
use Rattle.encoded_word.specs.SegmentsLaws.{rendered_ascii}
use Rattle.letter_case.specs.LetterCase.{bytes}
use Rattle.envelope_line.specs.declared.Fault.{Fault}
use Rattle.envelope_line.specs.declared.Fault.TheVariants.{Malformed, NoAlternative, BadAlternative, RetiredAlternative}
use Rattle.envelope.specs.declared.FaultAt.{FaultAt}
use Rattle.envelope.specs.Envelope.{checked, fault_number, orcpt_line, texts, mail_of, only_rcpt_of, written, mail_replacement, rcpt_replacement, refused}
use Rattle.envelope.proofs.AsciiLaws.{written_ascii}
use Rattle.envelope.proofs.ReplacementLaws.{mail_replacement_utf8, rcpt_replacement_utf8, mail_replacement_none, rcpt_replacement_none}
use Rattle.envelope_line.specs.EnvelopeLine.{replacement}
use Rattle.outgoing_field.specs.Fate.{FirstHeld}
use Rattle.outgoing_field.specs.Fate.FirstHeld.{Absent, At as HeldAt}
use Rattle.header_line.specs.Lines.{checked_lines, LineCheck}
use Rattle.header.specs.Fields.{fields_of}
use Rattle.rules.specs.declared.Rules.{Rules}
use Rattle.rules.specs.Rules.{allows_alternative}
use Rattle.field.proofs.FieldLaws.{labelled_sound}
use Rattle.outgoing_field.specs.Fate.{segments_of, header_segments, held_of}
use Rattle.outgoing_field.proofs.OwedLaws.{owed_header}
use Rattle.call.specs.declared.Answer.{Answer}
use Rattle.call.specs.declared.Refusal.TheVariants.{EnvelopeOver, EnvelopeNeeds}
use Rattle.call.specs.OutgoingHeader.{new_field, new_fields, outgoing_segments, outgoing_header}
use Rattle.call.specs.Outcome.{number_of, input_of, place_of, offset_of, of_envelope, of_header, of_orcpt, first_of, verdict, Outcome, outcome_of, outcome, observed}
use Rattle.call.proofs.OutputLaws.{over_yes, over_no}
use Rattle.outgoing_header.specs.HeaderOutcome.{of_lines, of_held, number_of as header_number, place_of as header_place, offset_of as header_offset}
use Rattle.outgoing_header.proofs.HeaderOutcomeLaws.{size_over, size_within, room_short, room_enough}
use Rattle.envelope_line.specs.LineGrammar.{LineRefused}
use Rattle.envelope.specs.EnvelopeDemand.{Any, Ascii}
use Rattle.envelope.proofs.EnvelopeDemandLaws.{replacements_of, replacements, envelope_passed, envelope_clean, lines_passed, lines_clean, written_kept}
use Rattle.offset.specs.EnvelopeRefusalLaws.{envelope_malformed_found, malformed_exact, envelope_refused, refused_exact, envelope_orcpt, orcpt_exact}
use Rattle.demands.specs.Downgraded.{EnvelopePasses, first_fields, FieldsBecome, Downgraded}
use Rattle.demands.specs.Downgraded.EnvelopePasses.{none_refused}
use Rattle.demands.specs.Downgraded.HeaderBecomes.{all_become}
use Rattle.demands.specs.Downgraded.Downgraded.{both_pass}
use Rattle.demands.proofs.HeaderLaws.{header_lines, lines_header, header_malformed_found, header_malformed_exact}
use Rattle.demands.proofs.BecomesLaws.{fields_become, fields_exact, field_held, held_exact}
use Rattle.demands.proofs.RowsLaws.{rows_right}
use Rattle.demands.proofs.KeptLaws.{kept_all, kept_past}
use Rattle.demands.specs.Demands.{Given, KeptPast, Demand1, Demand2, DemandThree, Demands}
use Rattle.demands.specs.Demands.Given.{envelope_over, header_over, envelope_malformed, line_refused, header_malformed, orcpt_non_ascii, held_non_ascii, envelope_longer, header_longer, none_holds}

-- an outcome's answer, and what stands in its buffers
abbrev pub answer_of : Outcome → Answer
answer_of o = record { number = o.number; input = o.input; place = o.place; offset = o.offset; envelope_len = o.envelope_len; header_len = o.header_len }

abbrev pub envelope_out : Outcome → List ℕ
envelope_out o = take o.envelope_len o.envelope_buffer

abbrev pub header_out : Outcome → List ℕ
header_out o = take o.header_len o.header_buffer

-- a line is refused by 3, 4 or 10
pub refusal_number : {rules : Rules} {mail : Bool} {line : List ℕ} {number byte k : ℕ} → LineRefused rules mail line number byte → number ≡ k → k ≢ 3 → k ≢ 4 → k ≢ 10 → ⊥
refusal_number (LineRefused.no_alternative l t) z a b c = a (sym z)
refusal_number (LineRefused.beside_ascii l t u) z a b c = b (sym z)
refusal_number (LineRefused.no_address l t u) z a b c = b (sym z)
refusal_number (LineRefused.retired l t) z a b c = c (sym z)

-- ---- what is downgraded is what is computed

-- the new first fields by the lines' texts
first_fields_lem : (ts : List (List ℕ)) → first_fields (replacements_of ts) ≡ new_field (bytes "Downgraded-Mail-From:") (mail_of ts) ++ new_field (bytes "Downgraded-Rcpt-To:") (only_rcpt_of ts)
unfolding first_fields replacements_of mail_of only_rcpt_of new_field
first_fields_lem [] = refl
first_fields_lem (mail ∷ []) = sym (append-nil (new_field (bytes "Downgraded-Mail-From:") (replacement true mail)))
first_fields_lem (mail ∷ rcpt ∷ []) = refl
first_fields_lem (mail ∷ rcpt ∷ next ∷ more) = sym (append-nil (new_field (bytes "Downgraded-Mail-From:") (replacement true mail)))

first_new : (e : List ℕ) → first_fields (replacements e) ≡ new_fields e
unfolding replacements new_fields mail_replacement rcpt_replacement
first_new e = first_fields_lem (texts e)

module _ (rules : Rules) (e h : List ℕ) where
  -- by the scans: each part passes
  pub record Passes : Type 0 where
    pub limits : (length e ≤ 16384) × (length h ≤ 32768)
    pub recipients : ℕ
    pub envelope : checked rules e ≡ Ok recipients
    pub header : checked_lines h ≡ Ok tt
    pub orcpt : orcpt_line e ≡ None
    pub held : held_of rules h ≡ Absent

  record Computed (out : List ℕ) (segments : List Segment) : Type 0 where
    pub passes : Passes
    pub out_is : out ≡ written e
    pub segments_are : segments ≡ outgoing_segments rules e h

  computed : {out : List ℕ} {segments : List Segment} → Downgraded rules e h out segments → Computed out segments
  unfolding outgoing_segments
  computed (both_pass (none_refused {n} s t enough lines) (all_become header_lines fields)) =
      let x = lines_passed lines enough in
      let y = fields_exact h fields in
      record {
        passes = record { limits = (s, t); recipients = pred n; envelope = x.0; header = lines_header header_lines; orcpt = lines_clean lines; held = y.0 };
        out_is = x.1;
        segments_are = rw (x.2, first_new e, y.1);
      }

  module _ {out : List ℕ} {segments : List Segment} (d : Downgraded rules e h out segments) where
    pub downgraded_passes : Passes
    downgraded_passes = (computed d).passes

    pub downgraded_out : out ≡ written e
    downgraded_out = (computed d).out_is

    pub downgraded_segments : segments ≡ outgoing_segments rules e h
    downgraded_segments = (computed d).segments_are

    pub downgraded_header : rendered segments ≡ outgoing_header rules e h
    unfolding outgoing_header
    downgraded_header = ap rendered downgraded_segments

  module _ (p : Passes) where
    enough_lines : 2 ≤ suc p.recipients
    enough_lines = let k = (envelope_passed rules e p.recipients p.envelope).0 in omega arith

    passes_downgraded : Downgraded rules e h (written e) (outgoing_segments rules e h)
    unfolding outgoing_segments
    passes_downgraded =
        rw (← first_new e)
        (both_pass
        (none_refused p.limits.0 p.limits.1 enough_lines (envelope_clean rules e p.recipients p.envelope p.orcpt))
        (all_become (header_lines h p.header).1 (fields_become rules h p.held)))

    no_first_fields : T (not (allows_alternative rules)) → FieldsBecome rules (fields_of h) (outgoing_segments rules e h)
    unfolding outgoing_segments new_fields new_field
    no_first_fields n =
        rw (mail_replacement_none rules e p.recipients p.envelope n, rcpt_replacement_none rules e p.recipients p.envelope n)
        (fields_become rules h p.held)

-- ---- demand 1

module _ (rules : Rules) (e h b c : List ℕ) where
  abbrev o : Outcome
  o = outcome rules e h b c

  -- the answer of a verdict
  abbrev Answers : Verdict → ℕ → ℕ → ℕ → ℕ → Type 0
  Answers v number input place offset =
      (number ≡ (outcome_of rules v e h b c).number) × (input ≡ (outcome_of rules v e h b c).input) × (place ≡ (outcome_of rules v e h b c).place) × (offset ≡ (outcome_of rules v e h b c).offset)

  -- each condition gives its verdict
  exactly : (number input place offset : ℕ) → Given rules e h b c number input place offset → Answers (verdict rules e h (length b) (length c)) number input place offset
  unfolding verdict first_of outcome_of number_of input_of place_of offset_of fault_number of_envelope of_header of_lines of_orcpt of_held header_number header_place header_offset
  exactly number input place offset (envelope_over k) = rw (over_yes 16384 (length e) EnvelopeOver k) (refl, refl, refl, refl)
  exactly number input place offset (header_over k l) = rw (over_no 16384 (length e) EnvelopeOver k, size_over h l) (refl, refl, refl, refl)
  exactly number input place offset (envelope_malformed s t k ls m f) =
      let x = malformed_exact k ls m f in
      rw (over_no 16384 (length e) EnvelopeOver s, size_within h t, x.0) (refl, refl, refl, x.1)
  exactly number input place offset (line_refused more s t k ls m f) =
      let x = refused_exact more k ls m f in
      rw (over_no 16384 (length e) EnvelopeOver s, size_within h t, x.1) (x.2, refl, refl, x.3)
  exactly number input place offset (header_malformed (none_refused s t enough all) m) =
      let x = header_malformed_exact m in
      rw (over_no 16384 (length e) EnvelopeOver s, size_within h t, (lines_passed all enough).0, x.0) (refl, refl, refl, x.1)
  exactly number input place offset (orcpt_non_ascii more (none_refused s t enough all) q k ls l m) =
      let passed = (lines_passed all enough).0 in
      let x = orcpt_exact more k ls l m in
      rw (over_no 16384 (length e) EnvelopeOver s, size_within h t, passed, lines_header q, x.0) (refl, refl, refl, sym x.1)
  exactly number input place offset (held_non_ascii (none_refused s t enough all) q m) =
      let x = held_exact h m in
      rw (over_no 16384 (length e) EnvelopeOver s, size_within h t, (lines_passed all enough).0, lines_header q, lines_clean all, x.0) (refl, refl, refl, x.1)
  exactly number input place offset (envelope_longer d k) =
      let p = downgraded_passes rules e h d in
      let s = p.limits in
      let k' = rw (downgraded_out rules e h d) at k in
      rw (over_no 16384 (length e) EnvelopeOver s.0, size_within h s.1, p.envelope, p.header, p.orcpt, p.held, over_yes (length b) (length (written e)) (EnvelopeNeeds (length (written e))) k') (refl, refl, ap length (downgraded_out rules e h d), refl)
  exactly number input place offset (header_longer d k l) =
      let p = downgraded_passes rules e h d in
      let s = p.limits in
      let k' = rw (downgraded_out rules e h d) at k in
      let l' = rw (downgraded_header rules e h d) at l in
      rw (over_no 16384 (length e) EnvelopeOver s.0, size_within h s.1, p.envelope, p.header, p.orcpt, p.held, over_no (length b) (length (written e)) (EnvelopeNeeds (length (written e))) k', room_short (length c) (length (outgoing_header rules e h)) l') (refl, refl, ap length (downgraded_header rules e h d), refl)
  exactly number input place offset (none_holds d k l) =
      let p = downgraded_passes rules e h d in
      let s = p.limits in
      let k' = rw (downgraded_out rules e h d) at k in
      let l' = rw (downgraded_header rules e h d) at l in
      rw (over_no 16384 (length e) EnvelopeOver s.0, size_within h s.1, p.envelope, p.header, p.orcpt, p.held, over_no (length b) (length (written e)) (EnvelopeNeeds (length (written e))) k', room_enough (length c) (length (outgoing_header rules e h)) l') (refl, refl, refl, refl)

  -- some condition holds
  record SomeHolds : Type 0 where
    pub number : ℕ
    pub input : ℕ
    pub place : ℕ
    pub offset : ℕ
    pub given : Given rules e h b c number input place offset

  found : {number input place offset : ℕ} → Given rules e h b c number input place offset → SomeHolds
  found {number} {input} {place} {offset} g = record { number = number; input = input; place = place; offset = offset; given = g }

  some_room : Passes rules e h → SomeHolds
  unfolding outgoing_header
  some_room p =
      let d = passes_downgraded rules e h p in
      by_test (ltb (length b) (length (written e)))
      (λ t. found (envelope_longer d (ltb_yes {a = length b} {b = length (written e)} t)))
      (λ t. let k = ltb_no {a = length b} {b = length (written e)} t in
      by_test (ltb (length c) (length (outgoing_header rules e h)))
      (λ u. found (header_longer d k (ltb_yes {a = length c} {b = length (outgoing_header rules e h)} u)))
      (λ u. found (none_holds d k (ltb_no {a = length c} {b = length (outgoing_header rules e h)} u))))

  module _ (s : (length e ≤ 16384) × (length h ≤ 32768)) where
    module _ (m : ℕ) (p : checked rules e ≡ Ok m) where
      passed : EnvelopePasses rules Any e h (written e) (replacements e)
      passed =
          let x = envelope_passed rules e m p in
          let enough : 2 ≤ suc m = let k = x.0 in omega arith in
          none_refused s.0 s.1 enough x.1

      module _ (q : checked_lines h ≡ Ok tt) where
        module _ (r : orcpt_line e ≡ None) where
          clean : EnvelopePasses rules Ascii e h (written e) (replacements e)
          clean =
              let enough : 2 ≤ suc m = let k = (envelope_passed rules e m p).0 in omega arith in
              none_refused s.0 s.1 enough (envelope_clean rules e m p r)

          some_held : (held : FirstHeld) → held_of rules h ≡ held → SomeHolds
          some_held Absent k = some_room (record { limits = s; recipients = m; envelope = p; header = q; orcpt = r; held = k })
          some_held (HeldAt line at) k =
              found (held_non_ascii clean (header_lines h q).1 (field_held rules h line at k))

        some_orcpt : (orcpt : Option ℕ) → orcpt_line e ≡ orcpt → SomeHolds
        some_orcpt None k = some_held k (held_of rules h) refl
        some_orcpt (Some line) k =
            let x = envelope_orcpt rules e m line p k in
            found (orcpt_non_ascii x.more passed (header_lines h q).1 x.is x.lines x.l x.high)

      some_header : (check : LineCheck) → checked_lines h ≡ check → SomeHolds
      some_header (Ok tt) k = some_orcpt k (orcpt_line e) refl
      some_header (Err bad) k = found (header_malformed passed (header_malformed_found h bad.line bad.at k))

    some_refused : (fault : Fault) (line : ℕ) → (fault ≡ Malformed → ⊥) → checked rules e ≡ refused fault line → SomeHolds
    some_refused fault line n k =
        let x = envelope_refused rules e fault line n k in
        found (line_refused x.more s.0 s.1 x.is x.lines x.few x.refused)

    some_fault : (fault : Fault) (line : ℕ) → checked rules e ≡ refused fault line → SomeHolds
    some_fault Malformed line k = let x = envelope_malformed_found rules e line k in found (envelope_malformed s.0 s.1 x.front.is x.front.lines x.missing x.at)
    some_fault NoAlternative line k = some_refused NoAlternative line (λ q. absurd (let z : ◌≡◌ {A = ℕ} 0 1 = cc in omega arith)) k
    some_fault BadAlternative line k = some_refused BadAlternative line (λ q. absurd (let z : ◌≡◌ {A = ℕ} 0 1 = cc in omega arith)) k
    some_fault RetiredAlternative line k = some_refused RetiredAlternative line (λ q. absurd (let z : ◌≡◌ {A = ℕ} 0 1 = cc in omega arith)) k

    some_envelope : (check : Result ℕ FaultAt) → checked rules e ≡ check → SomeHolds
    some_envelope (Ok count) k = some_header count k (checked_lines h) refl
    some_envelope (Err at) k = some_fault at.fault at.line k

  some : SomeHolds
  some =
      by_test (ltb 16384 (length e)) (λ t. found (envelope_over (ltb_yes {a = 16384} {b = length e} t)))
      (λ t. let k = ltb_no {a = 16384} {b = length e} t in
      by_test (ltb 32768 (length h)) (λ u. found (header_over k (ltb_yes {a = 32768} {b = length h} u)))
      (λ u. some_envelope (k, ltb_no {a = 32768} {b = length h} u) (checked rules e) refl))

  given_exact : (number input place offset : ℕ) → Given rules e h b c number input place offset → (number ≡ o.number) × (input ≡ o.input) × (place ≡ o.place) × (offset ≡ o.offset)
  unfolding outcome
  given_exact number input place offset g = exactly number input place offset g

  given_answered : Given rules e h b c o.number o.input o.place o.offset
  given_answered = let q = given_exact some.number some.input some.place some.offset some.given in rw (← q.0, ← q.1, ← q.2, ← q.3) some.given

  -- a refusal has a number from 1 on
  refusal_none : (v : Verdict) → ((outcome_of rules v e h b c).number ≡ 0 → ⊥) → ((outcome_of rules v e h b c).envelope_len ≡ 0) × ((outcome_of rules v e h b c).header_len ≡ 0)
  unfolding outcome_of
  refusal_none (Ok tt) k = absurd (k refl)
  refusal_none (Err refusal) k = (refl, refl)

  refusal_kept : (v : Verdict) → ((outcome_of rules v e h b c).number ≡ 0 → ⊥) → KeptPast (outcome_of rules v e h b c).envelope_len b (outcome_of rules v e h b c).envelope_buffer × KeptPast (outcome_of rules v e h b c).header_len c (outcome_of rules v e h b c).header_buffer
  unfolding outcome_of
  refusal_kept (Ok tt) k = absurd (k refl)
  refusal_kept (Err refusal) k = (kept_all b, kept_all c)

  -- after 0 the whole input passes, and both outputs fit
  record Taken : Type 0 where
    pub passes : Passes rules e h
    pub envelope_fits : length (written e) ≤ length b
    pub header_fits : length (outgoing_header rules e h) ≤ length c

  taken : (number input place offset : ℕ) → Given rules e h b c number input place offset → number ≡ 0 → Taken
  taken number input place offset (envelope_over k) z = absurd (omega arith)
  taken number input place offset (header_over k l) z = absurd (omega arith)
  taken number input place offset (envelope_malformed s t k ls m f) z = absurd (omega arith)
  taken number input place offset (line_refused more s t k ls m f) z = absurd (refusal_number f z (omega arith) (omega arith) (omega arith))
  taken number input place offset (header_malformed p m) z = absurd (omega arith)
  taken number input place offset (orcpt_non_ascii more p q k ls l m) z = absurd (omega arith)
  taken number input place offset (held_non_ascii p q m) z = absurd (omega arith)
  taken number input place offset (envelope_longer d k) z = absurd (omega arith)
  taken number input place offset (header_longer d k l) z = absurd (omega arith)
  taken number input place offset (none_holds d k l) z = record {
    passes = downgraded_passes rules e h d;
    envelope_fits = rw (downgraded_out rules e h d) at k;
    header_fits = rw (downgraded_header rules e h d) at l;
  }

  module _ (t : Taken) where
    accepted : verdict rules e h (length b) (length c) ≡ (Ok tt)
    unfolding verdict first_of of_envelope of_header of_lines of_orcpt of_held
    accepted =
        let p = t.passes in
        let s = p.limits in
        rw (over_no 16384 (length e) EnvelopeOver s.0, size_within h s.1, p.envelope, p.header, p.orcpt, p.held, over_no (length b) (length (written e)) (EnvelopeNeeds (length (written e))) t.envelope_fits, room_enough (length c) (length (outgoing_header rules e h)) t.header_fits)

    outcome_is : outcome_of rules (Ok tt) e h b c ≡ o
    unfolding outcome
    outcome_is = rw accepted

    success_kept : KeptPast o.envelope_len b o.envelope_buffer × KeptPast o.header_len c o.header_buffer
    unfolding outcome_of
    success_kept = rw (← outcome_is) (kept_past (written e) b t.envelope_fits, kept_past (outgoing_header rules e h) c t.header_fits)

  both_kept : KeptPast o.envelope_len b o.envelope_buffer × KeptPast o.header_len c o.header_buffer
  unfolding outcome
  both_kept =
      by_test (eqb o.number 0)
      (λ t. success_kept (taken o.number o.input o.place o.offset given_answered (eqb→eq o.number 0 t)))
      (λ t. refusal_kept (verdict rules e h (length b) (length c)) (eqb_no {a = o.number} {b = 0} t))

  outcome_demand_1 : Demand1 rules e h b c (answer_of o) o.envelope_buffer o.header_buffer
  unfolding outcome
  outcome_demand_1 = record {
    answered = given_answered;
    exact = given_exact;
    refusal = refusal_none (verdict rules e h (length b) (length c));
    envelope_kept = both_kept.0;
    header_kept = both_kept.1;
  }

-- ---- demands 2 and 3

new_field_sound : (label text : List ℕ) → T (all is_ascii label) → T (utf8 text) → T (all sound (new_field label text))
unfolding new_field
new_field_sound label [] a u = tt
new_field_sound label (x ∷ text) a u = labelled_sound label (x ∷ text) a u

module _ (rules : Rules) (e h : List ℕ) (p : Passes rules e h) where
  segments_sound : T (all sound (outgoing_segments rules e h))
  unfolding outgoing_segments new_fields bytes segments_of
  segments_sound =
      let mail = mail_replacement_utf8 rules e p.recipients p.envelope in
      all_append sound (new_fields e) (header_segments rules h)
      (all_append sound (new_field (bytes "Downgraded-Mail-From:") (mail_replacement e)) (new_field (bytes "Downgraded-Rcpt-To:") (rcpt_replacement e))
      (new_field_sound (bytes "Downgraded-Mail-From:") (mail_replacement e) tt mail)
      (new_field_sound (bytes "Downgraded-Rcpt-To:") (rcpt_replacement e) tt (rcpt_replacement_utf8 rules e p.recipients p.envelope)))
      (owed_header rules h p.header).sound_all

  written_out_ascii : T (all is_ascii (outgoing_header rules e h))
  unfolding outgoing_header
  written_out_ascii = rendered_ascii (outgoing_segments rules e h) segments_sound

  module _ (b c : List ℕ) (t : Taken rules e h b c) where
    outcome_demand_2 : Demand2 rules e h (envelope_out (outcome rules e h b c)) (header_out (outcome rules e h b c))
    unfolding outcome_of outgoing_header
    outcome_demand_2 =
        let d : Downgraded rules e h (take (length (written e)) (overlay (written e) b)) (outgoing_segments rules e h) =
        rw (overlay_front (written e) b t.envelope_fits) (passes_downgraded rules e h p) in
        rw (← outcome_is rules e h b c t)
        (record {
          segments = outgoing_segments rules e h;
          downgraded = d;
          header = overlay_front (outgoing_header rules e h) c t.header_fits;
          envelope_ascii = rw (overlay_front (written e) b t.envelope_fits) (written_ascii rules e p.recipients p.envelope p.orcpt);
          header_ascii = rw (overlay_front (outgoing_header rules e h) c t.header_fits) written_out_ascii;
          retired = λ n. (overlay_front (written e) b t.envelope_fits ∙ written_kept rules e p.recipients n p.envelope, no_first_fields rules e h p n);
        })

    header_is : header_out (outcome rules e h b c) ≡ outgoing_header rules e h
    unfolding outcome_of
    header_is = rw (← outcome_is rules e h b c t) (overlay_front (outgoing_header rules e h) c t.header_fits)

    outcome_demand_3 : DemandThree (Downgraded rules e h (envelope_out (outcome rules e h b c))) (header_out (outcome rules e h b c))
    unfolding outgoing_header
    outcome_demand_3 = rows_right (outgoing_segments rules e h) segments_sound header_is (λ ss d. downgraded_segments rules e h d)

-- after 0
after_zero : (rules : Rules) (e h b c : List ℕ) → (outcome rules e h b c).number ≡ 0 → Taken rules e h b c
after_zero rules e h b c z =
    let o = outcome rules e h b c in taken rules e h b c o.number o.input o.place o.offset (given_answered rules e h b c) z

-- the length and the bytes of the outgoing header
pub header_left : (rules : Rules) (e h b c : List ℕ) → (outcome rules e h b c).number ≡ 0
    → ((outcome rules e h b c).header_len ≡ length (outgoing_header rules e h)) × (header_out (outcome rules e h b c) ≡ outgoing_header rules e h)
unfolding outcome_of
header_left rules e h b c z = let t = after_zero rules e h b c z in (rw (← outcome_is rules e h b c t), header_is rules e h t.passes b c t)

-- the demands on an outcome
abbrev pub OutcomeDemands : Rules → List ℕ → List ℕ → List ℕ → List ℕ → Outcome → Type 0
OutcomeDemands rules e h b c o = Demands rules e h b c (answer_of o) o.envelope_buffer o.header_buffer

-- All three, of every envelope, every header and every two buffers.
pub demands : (rules : Rules) (e h b c : List ℕ) → OutcomeDemands rules e h b c (outcome rules e h b c)
demands rules e h b c = record {
  demand_1 = outcome_demand_1 rules e h b c;
  demand_2 = λ z. let t = after_zero rules e h b c z in outcome_demand_2 rules e h t.passes b c t;
  demand_3 = λ z. let t = after_zero rules e h b c z in outcome_demand_3 rules e h t.passes b c t;
}

-- what is observed as the outcome meets them
pub met : {rules : Rules} {e h b c : List ℕ} {r : Answer} {b' c' : List ℕ} → observed r b' c' ≡ outcome rules e h b c → Demands rules e h b c r b' c'
met {rules} {e} {h} {b} {c} {r} {b'} {c'} q = by_outcome (observed r b' c') q
  where
    by_outcome : (o : Outcome) → o ≡ outcome rules e h b c → OutcomeDemands rules e h b c o
    by_outcome o q = rw q (demands rules e h b c)
