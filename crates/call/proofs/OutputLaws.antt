-- Laws of the outcome where the input is accepted: measured, then written.
use Rattle.call.specs.Outcome.{Verdict}
use Rattle.std.specs.Prelude.{◌≡◌, refl, List, [], ◌∷◌, ◌++◌, ℕ, ◌+◌, ◌*◌, ◌≤◌, ◌<◌, min, Ok, Err, Result}
use Rattle.std.proofs.Common.{sym, ◌∙◌, arith, length-append, lt-ltb, le-ltb}
use Rattle.std.proofs.Math.Path.{ap}
use Rattle.std.proofs.Math.ListN.{length}
use Rattle.buffer.specs.Buffer.{Wrote, AppendedCapped, greatest}
use Rattle.buffer.specs.BufferLaws.{capped_then, capped_same, wrote_of}
use Rattle.letter_case.specs.LetterCase.{bytes}
use Rattle.encoded_word.specs.Segments.{rendered}
use Rattle.encoded_word.specs.SegmentsLaws.{rendered_append}
use Rattle.envelope_line.specs.declared.Fault.{Fault}
use Rattle.envelope.specs.declared.FaultAt.{FaultAt}
use Rattle.envelope.specs.Envelope.{checked, texts, written_of, written, orcpt_line, mail_replacement, only_rcpt_of, rcpt_replacement, refused}
use Rattle.envelope.specs.LineStarts.{EnvelopeChecked, texts_at}
use Rattle.envelope.proofs.WrittenLaws.{stored}
use Rattle.envelope.proofs.LengthLaws.{written_le}
use Rattle.envelope.proofs.ReplacementLaws.{mail_replacement_short, rcpt_replacement_short}
use Rattle.header_line.specs.Lines.{checked_lines, LineCheck}
use Rattle.rules.specs.declared.Rules.{Rules}
use Rattle.outgoing_field.specs.Fate.{FirstHeld}
use Rattle.outgoing_field.specs.Fate.FirstHeld.{Absent, At}
use Rattle.outgoing_field.specs.Fate.{segments_of, header_segments, header_written, limited, held_of}
use Rattle.outgoing_field.proofs.FateLaws.{limited_short, unheld_header}
use Rattle.outgoing_field.specs.Most.{most_of}
use Rattle.outgoing_field.proofs.MostLaws.{most_le}
use Rattle.outgoing_field.proofs.OwedLaws.{owed_header}
use Rattle.call.specs.declared.Refusal.{Refusal}
use Rattle.call.specs.declared.Refusal.TheVariants.{EnvelopeOver, EnvelopeLine, EnvelopeNeeds, Header}
use Rattle.call.specs.declared.Answer.{Answer}
use Rattle.call.specs.OutgoingHeader.{new_field, new_fields, new_fields_most, outgoing_segments, outgoing_header}
use Rattle.call.specs.Outcome.{over, of_envelope, of_header, of_orcpt, first_of, verdict, outcome_of, outcome, observed}
use Rattle.offset.specs.Offset.{fault_offset}
use Rattle.outgoing_header.specs.declared.HeaderRefusal.TheVariants.{Over, Needs}
use Rattle.outgoing_header.specs.HeaderOutcome.{of_size, of_lines, of_held, of_room}
use Rattle.outgoing_header.specs.HeaderOutcomeLaws.{Needed, Passed as PassedHeader}
use Rattle.outgoing_header.proofs.HeaderOutcomeLaws.{size_over, size_within, room_short, room_enough, needed_none}
use Rattle.call.specs.OutcomeLaws.{RefusedBy}
use Rattle.call.proofs.NewFieldLaws.{length_new_field}
use Rattle.call.specs.OutputLaws.{Accepted, Ready, Short, StartsOf, Texts, header_of}

-- ---- refusals

-- where a verdict refuses, so does the call
pub refused_observed : (rules : Rules) (e h b c : List ℕ) {refusal : Refusal} {r : Answer} → verdict rules e h (length b) (length c) ≡ Err refusal → RefusedBy refusal r → observed r b c ≡ outcome rules e h b c
unfolding outcome outcome_of
refused_observed rules e h b c v a = rw (v, a.number, a.input, a.place, a.offset, a.none₁, a.none₂)

pub over_yes : (limit size : ℕ) (refusal : Refusal) → limit < size → over limit size refusal ≡ Err refusal
unfolding over
over_yes limit size refusal k = rw (lt-ltb limit size k)

pub over_no : (limit size : ℕ) (refusal : Refusal) → size ≤ limit → over limit size refusal ≡ (Ok tt)
unfolding over
over_no limit size refusal k = rw (le-ltb limit size k)

module _ (rules : Rules) (e h : List ℕ) (room₁ room₂ : ℕ) where
  pub envelope_over : 16384 < length e → verdict rules e h room₁ room₂ ≡ Err EnvelopeOver
  unfolding verdict first_of
  envelope_over k = rw (over_yes 16384 (length e) EnvelopeOver k)

  module _ (short₁ : length e ≤ 16384) where
    pub header_over : 32768 < length h → verdict rules e h room₁ room₂ ≡ Err (Header Over)
    unfolding verdict first_of of_header
    header_over k = rw (over_no 16384 (length e) EnvelopeOver short₁, size_over h k)

    module _ (short₂ : length h ≤ 32768) where
      pub envelope_line_lem : (fault : Fault) (line offset : ℕ) → checked rules e ≡ refused fault line → offset ≡ fault_offset e fault line → verdict rules e h room₁ room₂ ≡ Err (EnvelopeLine fault line offset)
      unfolding verdict first_of of_envelope of_header
      envelope_line_lem fault line offset k q = rw (over_no 16384 (length e) EnvelopeOver short₁, size_within h short₂, k, q)

      module _ (count : ℕ) (passed : checked rules e ≡ Ok count) where
        past_envelope : verdict rules e h room₁ room₂
            ≡ first_of
            (of_header (of_lines h (checked_lines h))
            ∷ of_orcpt e (orcpt_line e)
            ∷ of_header (of_held h (held_of rules h))
            ∷ over room₁ (length (written e)) (EnvelopeNeeds (length (written e)))
            ∷ of_header (of_room room₂ (length (outgoing_header rules e h)))
            ∷ [])
        unfolding verdict first_of of_envelope of_header
        past_envelope = rw (over_no 16384 (length e) EnvelopeOver short₁, size_within h short₂, passed)

-- of verdicts one after another
first_refused : (a b : List Verdict) (refusal : Refusal) → first_of a ≡ Err refusal → first_of (a ++ b) ≡ Err refusal
unfolding first_of
first_refused [] b refusal k = absurd (let z : ◌≡◌ {A = ℕ} 0 1 = cc in omega arith)
first_refused ((Ok tt) ∷ a) b refusal k = first_refused a b refusal k
first_refused (Err r ∷ a) b refusal k = k

first_accepted : (a b : List Verdict) → first_of a ≡ (Ok tt) → first_of (a ++ b) ≡ first_of b
unfolding first_of
first_accepted [] b k = refl
first_accepted ((Ok tt) ∷ a) b k = first_accepted a b k
first_accepted (Err r ∷ a) b k = absurd (let z : ◌≡◌ {A = ℕ} 0 1 = cc in omega arith)

-- 1 to 6: the refusals that the buffers do not decide
abbrev pub of_input : Rules → List ℕ → List ℕ → List Verdict
of_input rules e h =
    over 16384 (length e) EnvelopeOver
    ∷ of_header (of_size h)
    ∷ of_envelope e (checked rules e)
    ∷ of_header (of_lines h (checked_lines h))
    ∷ of_orcpt e (orcpt_line e)
    ∷ of_header (of_held h (held_of rules h))
    ∷ []

-- an input that none of them refuses is decided by the buffers
module _ (rules : Rules) (e h : List ℕ) (room₁ room₂ : ℕ) (q : first_of (of_input rules e h) ≡ (Ok tt)) where
  by_rooms : verdict rules e h room₁ room₂
      ≡ first_of
      (over room₁ (length (written e)) (EnvelopeNeeds (length (written e)))
      ∷ of_header (of_room room₂ (length (outgoing_header rules e h)))
      ∷ [])
  unfolding verdict
  by_rooms = first_accepted (of_input rules e h) _ q

  pub envelope_short : room₁ < length (written e) → verdict rules e h room₁ room₂ ≡ Err (EnvelopeNeeds (length (written e)))
  unfolding first_of
  envelope_short l = by_rooms ∙ rw (over_yes room₁ (length (written e)) (EnvelopeNeeds (length (written e))) l)

  module _ (k : length (written e) ≤ room₁) where
    pub both_fit : length (outgoing_header rules e h) ≤ room₂ → verdict rules e h room₁ room₂ ≡ (Ok tt)
    unfolding first_of of_header
    both_fit l =
        by_rooms
        ∙ rw (over_no room₁ (length (written e)) (EnvelopeNeeds (length (written e))) k, room_enough room₂ (length (outgoing_header rules e h)) l)

    pub header_short : room₂ < length (outgoing_header rules e h) → verdict rules e h room₁ room₂ ≡ Err (Header (Needs (length (outgoing_header rules e h))))
    unfolding first_of of_header
    header_short l =
        by_rooms
        ∙ rw (over_no room₁ (length (written e)) (EnvelopeNeeds (length (written e))) k, room_short room₂ (length (outgoing_header rules e h)) l)

last_accepted : (a b v : Verdict) → first_of (a ∷ b ∷ v ∷ []) ≡ (Ok tt) → v ≡ (Ok tt)
unfolding first_of
last_accepted (Ok a) (Ok b) (Ok v) k = refl
last_accepted (Ok a) (Ok b) (Err r) k = k
last_accepted (Ok a) (Err r) v k = absurd (let z : ◌≡◌ {A = ℕ} 0 1 = cc in omega arith)
last_accepted (Err r) b v k = absurd (let z : ◌≡◌ {A = ℕ} 0 1 = cc in omega arith)

accepted_lines : {rules : Rules} {e h : List ℕ} {most : ℕ} → Accepted rules e h most → checked_lines h ≡ Ok tt
unfolding first_of of_lines of_header
accepted_lines {rules} {e} {h} ok = go (checked_lines h) refl ok.content
  where
    go : (l : LineCheck) → checked_lines h ≡ l → first_of (of_header (of_lines h l) ∷ of_orcpt e (orcpt_line e) ∷ of_header (of_held h (held_of rules h)) ∷ []) ≡ (Ok tt) → checked_lines h ≡ Ok tt
    go (Ok tt) q k = q
    go (Err bad) q k = absurd (let z : ◌≡◌ {A = ℕ} 0 1 = cc in omega arith)

accepted_none : {rules : Rules} {e h : List ℕ} {most : ℕ} → Accepted rules e h most → held_of rules h ≡ Absent
unfolding of_held of_header
accepted_none {rules} {e} {h} ok = by_held (held_of rules h) refl (last_accepted (of_header (of_lines h (checked_lines h))) (of_orcpt e (orcpt_line e)) (of_header (of_held h (held_of rules h))) ok.content)
  where
    by_held : (f : FirstHeld) → held_of rules h ≡ f → of_header (of_held h f) ≡ (Ok tt) → held_of rules h ≡ Absent
    by_held Absent q k = q
    by_held (At line at) q k = absurd (let z : ◌≡◌ {A = ℕ} 0 1 = cc in omega arith)

header_le : (rules : Rules) (h : List ℕ) → checked_lines h ≡ Ok tt → length (rendered (header_segments rules h)) ≤ most_of rules h
unfolding segments_of
header_le rules h w = (owed_header rules h w).short

header_of_le : (rules : Rules) {mail rcpt : List ℕ} (h : List ℕ) → Short mail rcpt → checked_lines h ≡ Ok tt → length (header_of rules mail rcpt h) ≤ most_of rules h + new_fields_most
unfolding header_of bytes new_fields_most
header_of_le rules {mail} {rcpt} h s w =
    let first = new_field (bytes "Downgraded-Mail-From:") mail in
    let second = new_field (bytes "Downgraded-Rcpt-To:") rcpt in
    omega (
      arith,
      ap length (rendered_append (first ++ second) (header_segments rules h)),
      length-append (rendered (first ++ second)) (rendered (header_segments rules h)),
      ap length (rendered_append first second),
      length-append (rendered first) (rendered second),
      length_new_field (bytes "Downgraded-Mail-From:") mail,
      length_new_field (bytes "Downgraded-Rcpt-To:") rcpt,
      header_le rules h w,
      s.of_mail,
      s.of_rcpt,
    )

pub header_wrote : (rules : Rules) {mail rcpt h before mid rest after : List ℕ} {n m k : ℕ} → Short mail rcpt → PassedHeader rules h → length before ≤ greatest
    → AppendedCapped (rendered (new_field (bytes "Downgraded-Mail-From:") mail)) 0 before mid n
    → AppendedCapped (rendered (new_field (bytes "Downgraded-Rcpt-To:") rcpt)) n mid rest m
    → AppendedCapped (rendered (header_written rules (limited h))) m rest after k
    → Wrote (header_of rules mail rcpt h) before after k
unfolding header_of new_fields_most
header_wrote rules {mail} {rcpt} {h} s p room a b d =
    let first = new_field (bytes "Downgraded-Mail-From:") mail in
    let second = new_field (bytes "Downgraded-Rcpt-To:") rcpt in
    let last = header_segments rules h in
    let whole = capped_then (capped_then a b room) (rw (limited_short h p.short, ← (unheld_header rules h p.none)) at d) room in
    let same : (rendered first ++ rendered second) ++ rendered last ≡ rendered ((first ++ second) ++ last) = rw (rendered_append (first ++ second) last, rendered_append first second) in
    wrote_of (capped_same same whole) (omega (arith, header_of_le rules h s p.lines, most_le rules h p.short))

-- ---- room

-- no sum with the most wraps
pub most_small : {rules : Rules} {h : List ℕ} {n : ℕ} → PassedHeader rules h → n ≡ most_of rules h → n ≤ 2621440
most_small {rules} {h} p e = rw e (most_le rules h p.short)

-- a room that holds the most of a header, and that of the new first fields
pub ample : {rules : Rules} {mail rcpt h : List ℕ} {room n : ℕ} → Short mail rcpt → PassedHeader rules h → n ≡ most_of rules h → n + 20600 ≤ room
    → Needed (length (header_of rules mail rcpt h)) room 0
unfolding new_fields_most
ample {rules} {h = h} s p e k = needed_none (omega (arith, header_of_le rules h s p.lines, e))

pub header_of_lem : (rules : Rules) {e mail rcpt : List ℕ} → Texts e mail rcpt → (h : List ℕ) → header_of rules mail rcpt h ≡ outgoing_header rules e h
unfolding header_of outgoing_header outgoing_segments new_fields
header_of_lem rules t h = rw (t.of_mail, t.of_rcpt)

-- the outgoing header has at most the most of a well-formed header, and that of the new first fields
pub outgoing_le : (rules : Rules) (e h : List ℕ) (count : ℕ) → checked rules e ≡ Ok count → length h ≤ 32768 → checked_lines h ≡ Ok tt
    → length (outgoing_header rules e h) ≤ most_of rules h + new_fields_most
outgoing_le rules e h count p k w =
    let t : Texts e (mail_replacement e) (rcpt_replacement e) = record { of_mail = refl; of_rcpt = refl } in
    let s : Short (mail_replacement e) (rcpt_replacement e) =
    record { of_mail = omega (arith, mail_replacement_short rules e count p); of_rcpt = omega (arith, rcpt_replacement_short rules e count p) } in
    rw (header_of_lem rules t h) at (header_of_le rules h s w)

pub to_ready : {rules : Rules} {e h before after : List ℕ} {count : ℕ} {r : Result ℕ FaultAt} → length e ≤ 16384 → length h ≤ 32768 → EnvelopeChecked rules e before after r → r ≡ Ok count → length before ≡ 100
    → Ready rules e h after count
to_ready s t c k l = let d = rw k at c in record { short₁ = s; short₂ = t; passed = sym d.answer; starts = stored d l }

pub starts_written : {e array before after : List ℕ} {count n : ℕ} → StartsOf e array count
    → AppendedCapped (written_of (texts_at count array e)) 0 before after n → Wrote (written e) before after n
unfolding written
starts_written s a = wrote_of (rw s.starts at a) (omega (arith, s.size))

module _ {rules : Rules} {e h array : List ℕ} {count : ℕ} (r : Ready rules e h array count) where
  pub content_refused : (room₁ room₂ : ℕ) {refusal : Refusal} → first_of (of_header (of_lines h (checked_lines h)) ∷ of_orcpt e (orcpt_line e) ∷ of_header (of_held h (held_of rules h)) ∷ []) ≡ Err refusal
      → verdict rules e h room₁ room₂ ≡ Err refusal
  content_refused room₁ room₂ {refusal} k =
      past_envelope rules e h room₁ room₂ r.short₁ r.short₂ count r.passed
      ∙ first_refused (of_header (of_lines h (checked_lines h)) ∷ of_orcpt e (orcpt_line e) ∷ of_header (of_held h (held_of rules h)) ∷ []) _ refusal k

  pub mail_short : length (mail_replacement e) ≤ 2048
  mail_short = omega (arith, mail_replacement_short rules e count r.passed)

  rcpt_is : only_rcpt_of (texts_at count array e) ≡ rcpt_replacement e
  unfolding rcpt_replacement
  rcpt_is = rw r.starts

  pub rcpt_short : length (only_rcpt_of (texts_at count array e)) ≤ 2048
  rcpt_short = rw rcpt_is (omega (arith, rcpt_replacement_short rules e count r.passed))

  -- the envelope
  pub ready_starts : StartsOf e array count
  ready_starts = record { starts = r.starts; size = omega (arith, written_le rules e count r.passed, r.short₁) }

  pub ready_texts : {mail rcpt : List ℕ} → mail ≡ mail_replacement e → rcpt ≡ only_rcpt_of (texts_at count array e) → Texts e mail rcpt
  ready_texts p q = record { of_mail = p; of_rcpt = q ∙ rcpt_is }

  pub ready_short : {mail rcpt : List ℕ} → Texts e mail rcpt → Short mail rcpt
  ready_short t = record { of_mail = rw t.of_mail mail_short; of_rcpt = rw t.of_rcpt (omega (arith, rcpt_replacement_short rules e count r.passed)) }

  pub ready_passed : {most : ℕ} → Accepted rules e h most → PassedHeader rules h
  ready_passed ok = record { short = r.short₂; lines = accepted_lines ok; none = accepted_none ok }

  -- ---- room

  module _ {most : ℕ} (ok : Accepted rules e h most) (b c : List ℕ) where
    past_content : verdict rules e h (length b) (length c)
        ≡ first_of
        (over (length b) (length (written e)) (EnvelopeNeeds (length (written e)))
        ∷ of_header (of_room (length c) (length (outgoing_header rules e h)))
        ∷ [])
    past_content =
        past_envelope rules e h (length b) (length c) r.short₁ r.short₂ count r.passed
        ∙ first_accepted (of_header (of_lines h (checked_lines h)) ∷ of_orcpt e (orcpt_line e) ∷ of_header (of_held h (held_of rules h)) ∷ []) _ ok.content

    pub envelope_needs : {n : ℕ} {a : Answer} → n ≡ length (written e) → length b < n → RefusedBy (EnvelopeNeeds n) a → observed a b c ≡ outcome rules e h b c
    unfolding first_of
    envelope_needs {n} {a} q k f =
        refused_observed rules e h b c (past_content ∙ rw (over_yes (length b) (length (written e)) (EnvelopeNeeds (length (written e))) (rw q at k))) (rw q at f)

    pub header_needs_lem : {mail rcpt : List ℕ} {n m : ℕ} {a : Answer} → Texts e mail rcpt → n ≡ length (written e) → n ≤ length b → Needed (length (header_of rules mail rcpt h)) (length c) m → length c < m
        → RefusedBy (Header (Needs m)) a → observed a b c ≡ outcome rules e h b c
    unfolding first_of of_header
    header_needs_lem {mail} {rcpt} {n} {m} {a} t q k d l f =
        let p : m ≡ length (outgoing_header rules e h) = d.exact l ∙ ap length (header_of_lem rules t h) in
        refused_observed rules e h b c
        (past_content
        ∙ rw (over_no (length b) (length (written e)) (EnvelopeNeeds (length (written e))) (rw q at k), room_short (length c) (length (outgoing_header rules e h)) (rw p at l)))
        (rw p at f)

    -- both fit
    pub downgraded : {mail rcpt : List ℕ} {n m : ℕ} {b' c' : List ℕ} {a : Answer} → Texts e mail rcpt → n ≡ length (written e) → n ≤ length b → Needed (length (header_of rules mail rcpt h)) (length c) m → m ≤ length c
        → a.number ≡ 0 → a.input ≡ 0 → a.place ≡ 0 → a.offset ≡ 0 → Wrote (written e) b b' a.envelope_len → Wrote (header_of rules mail rcpt h) c c' a.header_len
        → observed a b' c' ≡ outcome rules e h b c
    unfolding first_of outcome outcome_of of_header
    downgraded {mail} {rcpt} {n} {m} {b'} {c'} {a} t q k d l x i y z v u =
        let p : length (outgoing_header rules e h) ≤ length c = rw (header_of_lem rules t h) at (d.enough l) in
        let w : Wrote (outgoing_header rules e h) c c' a.header_len = rw (header_of_lem rules t h) at u in
        let fine : verdict rules e h (length b) (length c) ≡ (Ok tt) =
        past_content
        ∙ rw (over_no (length b) (length (written e)) (EnvelopeNeeds (length (written e))) (rw q at k), room_enough (length c) (length (outgoing_header rules e h)) p) in
        rw (fine, x, i, y, z, v.size, w.size, v.bytes, w.bytes)
