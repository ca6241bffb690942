-- The demands on the call for a mailbox hold of its outcome, and of nothing else.
use Rattle.outgoing_header.specs.HeaderOutcome.{HeaderVerdict}
use Rattle.std.specs.Prelude.{◌≡◌, List, ◌∷◌, ℕ, ◌≤◌, T, ltb, eqb, take, Ok, Err}
use Rattle.std.proofs.Math.Path.{refl, ap}
use Rattle.std.proofs.Common.{sym, ◌∙◌, arith, eqb→eq}
use Rattle.std.proofs.Math.ListN.{length}
use Rattle.std.proofs.Math.Facts.{ltb_yes, ltb_no, eqb_no}
use Rattle.lists.specs.Lists.{all}
use Rattle.lists.specs.ListsLaws.{by_test}
use Rattle.buffer.specs.BufferLaws.{overlay_front}
use Rattle.encoded_word.specs.Segments.{Segment, rendered, sound}
use Rattle.encoded_word.specs.SegmentsLaws.{rendered_ascii}
use Rattle.header_line.specs.Lines.{checked_lines, LineCheck}
use Rattle.rules.specs.declared.Rules.TheVariants.{Mailbox}
use Rattle.outgoing_field.specs.Fate.{FirstHeld}
use Rattle.outgoing_field.specs.Fate.FirstHeld.{Absent, At}
use Rattle.outgoing_field.specs.Fate.{segments_of, header_segments, held_of}
use Rattle.outgoing_field.proofs.OwedLaws.{owed_header}
use Rattle.outgoing_header.specs.declared.HeaderAnswer.{HeaderAnswer}
use Rattle.outgoing_header.specs.HeaderOutcome.{number_of, place_of, offset_of, of_lines, of_held, first_of, header_out, header_verdict, HeaderOutcome, header_outcome_of, header_outcome, header_observed}
use Rattle.outgoing_header.proofs.HeaderOutcomeLaws.{size_over, size_within, room_short, room_enough}
use Rattle.demands.specs.Downgraded.{HeaderBecomes}
use Rattle.demands.specs.Downgraded.HeaderBecomes.{all_become}
use Rattle.demands.specs.Demands.{KeptPast}
use Rattle.demands.proofs.KeptLaws.{kept_all, kept_past, same_buffer, same_length, untouched}
use Rattle.demands.proofs.RowsLaws.{rows_right, rows_together}
use Rattle.demands.proofs.HeaderLaws.{header_lines, lines_header, header_malformed_found, header_malformed_exact}
use Rattle.demands.proofs.BecomesLaws.{fields_become, fields_exact, field_held, held_exact}
use Rattle.demands.specs.MailboxDemands.{MailboxGiven, MailboxDemand1, MailboxDemand2, MailboxDemand3, MailboxDemands}
use Rattle.demands.specs.MailboxDemands.MailboxGiven.{over, malformed, held, longer, none_holds}

-- ---- what a header becomes is what is computed

module _ (h : List ℕ) where
  record Passes : Type 0 where
    pub short : length h ≤ 32768
    pub lines : checked_lines h ≡ Ok tt
    pub unheld : held_of Mailbox h ≡ Absent

  module _ {segments : List Segment} (b : HeaderBecomes Mailbox h segments) where
    becomes_passes : length h ≤ 32768 → Passes
    becomes_passes s = go b
      where
        go : HeaderBecomes Mailbox h segments → Passes
        go (all_become ls fs) = record { short = s; lines = lines_header ls; unheld = (fields_exact h fs).0 }

    becomes_segments : segments ≡ header_segments Mailbox h
    becomes_segments = go b
      where
        go : HeaderBecomes Mailbox h segments → segments ≡ header_segments Mailbox h
        go (all_become ls fs) = (fields_exact h fs).1

    becomes_out : rendered segments ≡ header_out Mailbox h
    unfolding header_out
    becomes_out = ap rendered becomes_segments

  passes_becomes : Passes → HeaderBecomes Mailbox h (header_segments Mailbox h)
  passes_becomes p = all_become (header_lines h p.lines).1 (fields_become Mailbox h p.unheld)

-- ---- demand 1

module _ (h c : List ℕ) where
  abbrev o : HeaderOutcome
  o = header_outcome Mailbox h c

  abbrev Answers : HeaderVerdict → ℕ → ℕ → ℕ → Type 0
  Answers v number place offset = (number ≡ (header_outcome_of Mailbox v h c).number) × (place ≡ (header_outcome_of Mailbox v h c).place) × (offset ≡ (header_outcome_of Mailbox v h c).offset)

  -- each condition gives its verdict
  exactly : (number place offset : ℕ) → MailboxGiven h c number place offset → Answers (header_verdict Mailbox h (length c)) number place offset
  unfolding header_verdict first_of header_outcome_of number_of place_of offset_of of_lines of_held
  exactly number place offset (over k) = rw (size_over h k) (refl, refl, refl)
  exactly number place offset (malformed s m) =
      let x = header_malformed_exact m in
      rw (size_within h s, x.0) (refl, refl, x.1)
  exactly number place offset (held s ls m) =
      let x = held_exact h m in
      rw (size_within h s, lines_header ls, x.0) (refl, refl, x.1)
  exactly number place offset (longer s b l) =
      let p = becomes_passes h b s in
      let l' = rw (becomes_out h b) at l in
      rw (size_within h s, p.lines, p.unheld, room_short (length c) (length (header_out Mailbox h)) l') (refl, ap length (becomes_out h b), refl)
  exactly number place offset (none_holds s b l) =
      let p = becomes_passes h b s in
      let l' = rw (becomes_out h b) at l in
      rw (size_within h s, p.lines, p.unheld, room_enough (length c) (length (header_out Mailbox h)) l') (refl, refl, refl)

  -- some condition holds
  record Some : Type 0 where
    pub number : ℕ
    pub place : ℕ
    pub offset : ℕ
    pub given : MailboxGiven h c number place offset

  found : {number place offset : ℕ} → MailboxGiven h c number place offset → Some
  found {number} {place} {offset} g = record { number = number; place = place; offset = offset; given = g }

  some_room : Passes h → Some
  unfolding header_out
  some_room p =
      let b = passes_becomes h p in
      by_test (ltb (length c) (length (header_out Mailbox h)))
      (λ u. found (longer p.short b (ltb_yes {a = length c} {b = length (header_out Mailbox h)} u)))
      (λ u. found (none_holds p.short b (ltb_no {a = length c} {b = length (header_out Mailbox h)} u)))

  module _ (s : length h ≤ 32768) where
    some_held : checked_lines h ≡ Ok tt → (f : FirstHeld) → held_of Mailbox h ≡ f → Some
    some_held q Absent k = some_room (record { short = s; lines = q; unheld = k })
    some_held q (At line at) k = found (held s (header_lines h q).1 (field_held Mailbox h line at k))

    some_lines : (check : LineCheck) → checked_lines h ≡ check → Some
    some_lines (Ok tt) k = some_held k (held_of Mailbox h) refl
    some_lines (Err bad) k = found (malformed s (header_malformed_found h bad.line bad.at k))

  some : Some
  some =
      by_test (ltb 32768 (length h)) (λ t. found (over (ltb_yes {a = 32768} {b = length h} t)))
      (λ t. some_lines (ltb_no {a = 32768} {b = length h} t) (checked_lines h) refl)

  given_exact : (number place offset : ℕ) → MailboxGiven h c number place offset → (number ≡ o.number) × (place ≡ o.place) × (offset ≡ o.offset)
  unfolding header_outcome
  given_exact number place offset g = exactly number place offset g

  given_answered : MailboxGiven h c o.number o.place o.offset
  given_answered = let q = given_exact some.number some.place some.offset some.given in rw (← q.0, ← q.1, ← q.2) some.given

  -- a refusal has a number from 1 on
  refusal_none : (v : HeaderVerdict) → ((header_outcome_of Mailbox v h c).number ≡ 0 → ⊥) → (header_outcome_of Mailbox v h c).len ≡ 0
  unfolding header_outcome_of
  refusal_none (Ok tt) k = absurd (k refl)
  refusal_none (Err refusal) k = refl

  refusal_kept : (v : HeaderVerdict) → ((header_outcome_of Mailbox v h c).number ≡ 0 → ⊥) → KeptPast (header_outcome_of Mailbox v h c).len c (header_outcome_of Mailbox v h c).buffer
  unfolding header_outcome_of
  refusal_kept (Ok tt) k = absurd (k refl)
  refusal_kept (Err refusal) k = kept_all c

  -- after 0 the header passes, and the output fits
  record Taken : Type 0 where
    pub passes : Passes h
    pub fits : length (header_out Mailbox h) ≤ length c

  taken : (number place offset : ℕ) → MailboxGiven h c number place offset → number ≡ 0 → Taken
  taken number place offset (over k) z = absurd (omega arith)
  taken number place offset (malformed s m) z = absurd (omega arith)
  taken number place offset (held s ls m) z = absurd (omega arith)
  taken number place offset (longer s b l) z = absurd (omega arith)
  taken number place offset (none_holds s b l) z = record { passes = becomes_passes h b s; fits = rw (becomes_out h b) at l }

  after_zero : o.number ≡ 0 → Taken
  after_zero z = taken o.number o.place o.offset given_answered z

  module _ (t : Taken) where
    outcome_is : header_outcome_of Mailbox (Ok tt) h c ≡ o
    unfolding header_outcome header_verdict first_of of_lines of_held
    outcome_is =
        let p = t.passes in
        rw (size_within h p.short, p.lines, p.unheld, room_enough (length c) (length (header_out Mailbox h)) t.fits)

    out_is : take o.len o.buffer ≡ header_out Mailbox h
    unfolding header_outcome_of
    out_is = rw (← outcome_is) (overlay_front (header_out Mailbox h) c t.fits)

    success_kept : KeptPast o.len c o.buffer
    unfolding header_outcome_of
    success_kept = rw (← outcome_is) (kept_past (header_out Mailbox h) c t.fits)

    segments_sound : T (all sound (header_segments Mailbox h))
    unfolding segments_of
    segments_sound = (owed_header Mailbox h t.passes.lines).sound_all

    demand_2 : MailboxDemand2 h (take o.len o.buffer)
    unfolding header_out
    demand_2 = record {
      segments = header_segments Mailbox h;
      becomes = passes_becomes h t.passes;
      header = out_is;
      ascii = rw out_is (rendered_ascii (header_segments Mailbox h) segments_sound);
    }

    only : (ss : List Segment) → HeaderBecomes Mailbox h ss → ss ≡ header_segments Mailbox h
    only ss b = becomes_segments h b

    demand_3 : MailboxDemand3 h (take o.len o.buffer)
    unfolding header_out
    demand_3 = record {
      each = rows_right (header_segments Mailbox h) segments_sound out_is only;
      together = λ before phrase next after b. rows_together (header_segments Mailbox h) segments_sound out_is only before phrase next after b;
    }

  both_kept : KeptPast o.len c o.buffer
  unfolding header_outcome
  both_kept =
      by_test (eqb o.number 0)
      (λ t. success_kept (after_zero (eqb→eq o.number 0 t)))
      (λ t. refusal_kept (header_verdict Mailbox h (length c)) (eqb_no {a = o.number} {b = 0} t))

-- an outcome's answer
abbrev answer_of : HeaderOutcome → HeaderAnswer
answer_of o = record { number = o.number; place = o.place; offset = o.offset; length = o.len }

abbrev OutcomeDemands : List ℕ → List ℕ → HeaderOutcome → Type 0
OutcomeDemands h c o = MailboxDemands h c (answer_of o) o.buffer

-- All three, of every header and every buffer.
pub mailbox_demands : (h c : List ℕ) → OutcomeDemands h c (header_outcome Mailbox h c)
unfolding header_outcome
mailbox_demands h c = record {
  demand_1 = record {
    answered = given_answered h c;
    exact = given_exact h c;
    refusal = refusal_none h c (header_verdict Mailbox h (length c));
    kept = both_kept h c;
  };
  demand_2 = λ z. demand_2 h c (after_zero h c z);
  demand_3 = λ z. demand_3 h c (after_zero h c z);
}

-- what is observed as the outcome meets them
pub mailbox_met : {h c : List ℕ} {r : HeaderAnswer} {c' : List ℕ} → header_observed r c' ≡ header_outcome Mailbox h c → MailboxDemands h c r c'
mailbox_met {h} {c} {r} {c'} q = by_outcome (header_observed r c') q
  where
    by_outcome : (o : HeaderOutcome) → o ≡ header_outcome Mailbox h c → OutcomeDemands h c o
    by_outcome o q = rw q (mailbox_demands h c)

-- ---- nothing is left open

same_outcome : {o p : HeaderOutcome} → o.number ≡ p.number → o.place ≡ p.place → o.offset ≡ p.offset → o.len ≡ p.len → o.buffer ≡ p.buffer → o ≡ p
same_outcome {o} {p} a b k d e = same
  where
    made : ℕ → ℕ → ℕ → ℕ → List ℕ → HeaderOutcome
    made n q k l x = record { number = n; place = q; offset = k; len = l; buffer = x }

    same : made o.number o.place o.offset o.len o.buffer ≡ made p.number p.place p.offset p.len p.buffer
    same = rw (a, b, k, d, e)

module _ (h c : List ℕ) (r : HeaderAnswer) (c' : List ℕ) (d : MailboxDemands h c r c') where
  abbrev p : HeaderOutcome
  p = header_outcome Mailbox h c

  meets : OutcomeDemands h c (header_outcome Mailbox h c)
  meets = mailbox_demands h c

  numbers : (r.number ≡ p.number) × (r.place ≡ p.place) × (r.offset ≡ p.offset)
  numbers = meets.demand_1.exact r.number r.place r.offset d.demand_1.answered

  when_zero : r.number ≡ 0 → header_observed r c' ≡ header_outcome Mailbox h c
  when_zero z =
      let y : p.number ≡ 0 = sym numbers.0 ∙ z in
      let mine = d.demand_2 z in
      let theirs = meets.demand_2 y in
      let text : take r.length c' ≡ take p.len p.buffer = mine.header ∙ becomes_out h mine.becomes ∙ sym (theirs.header ∙ becomes_out h theirs.becomes) in
      let len : r.length ≡ p.len = same_length d.demand_1.kept meets.demand_1.kept text in
      same_outcome numbers.0 numbers.1 numbers.2 len
      (same_buffer _ c _ _ text d.demand_1.kept ∙ rw len (sym (same_buffer _ c _ _ refl meets.demand_1.kept)))

  when_refused : (r.number ≡ 0 → ⊥) → header_observed r c' ≡ header_outcome Mailbox h c
  when_refused z =
      let mine = d.demand_1.refusal z in
      let theirs = meets.demand_1.refusal (λ y. z (numbers.0 ∙ y)) in
      same_outcome numbers.0 numbers.1 numbers.2 (mine ∙ sym theirs)
      (untouched mine d.demand_1.kept ∙ sym (untouched theirs meets.demand_1.kept))

  -- What meets them is the outcome.
  pub mailbox_determined : header_observed r c' ≡ header_outcome Mailbox h c
  mailbox_determined = by_test (eqb r.number 0) (λ t. when_zero (eqb→eq r.number 0 t)) (λ t. when_refused (eqb_no {a = r.number} {b = 0} t))
