-- Bounds of an outcome: every number fits 32 bits, what is written fits its buffer, and the rest of the buffer stays.
use Rattle.call.specs.Outcome.{Verdict}
use Rattle.std.specs.Prelude.{◌≡◌, ℕ, suc, ◌+◌, ◌≤◌, ◌<◌, ltb, eqb, take, drop, Ok, Err, Result, Option, Some, None}
use Rattle.std.proofs.Math.Path.{refl}
use Rattle.std.proofs.Common.{ap, length-append, length-take, length-drop}
use mathlib.Core.List.{List, [], ◌∷◌}
use native.Mathlib.Omega.{arith}
use Rattle.std.proofs.Math.ListN.{length}
use Rattle.std.proofs.lemmas.List.{length-map}
use Rattle.std.proofs.Math.Facts.{ltb_yes, ltb_no}
use Rattle.lists.specs.Byte.{is_ascii}
use Rattle.lists.specs.Lists.{joined}
use Rattle.lists.specs.ListsLaws.{by_test, cond_has, yes_true}
use Rattle.lists.specs.CutByLaws.{cut_few, cut_joined}
use Rattle.lists.specs.RunLaws.{run_le}
use Rattle.buffer.specs.BufferLaws.{length_overlay, overlay_past}
use Rattle.line.specs.Line.{crlf, line_len}
use Rattle.envelope_line.specs.EnvelopeLine.{orcpt_fault}
use Rattle.envelope_line.specs.declared.Fault.{Fault}
use Rattle.envelope_line.specs.declared.Fault.TheVariants.{Malformed, NoAlternative, BadAlternative, RetiredAlternative}
use Rattle.envelope.specs.declared.FaultAt.{FaultAt}
use Rattle.envelope.specs.Envelope.{lines, line_text, fault_of, fault_number, counted, checked_from, checked, texts, orcpt_from, orcpt_line, written, refused}
use Rattle.envelope.proofs.CheckLaws.{by_fault, fine_few}
use Rattle.envelope.proofs.LengthLaws.{written_le}
use Rattle.header_line.specs.Lines.{line_ok, lines_of, lines_from, checked_lines, bad_line, LineCheck}
use Rattle.header.specs.Fields.{field_len, fields_of, line_count}
use Rattle.rules.specs.declared.Rules.{Rules}
use Rattle.outgoing_field.specs.Fate.{FirstHeld}
use Rattle.outgoing_field.specs.Fate.FirstHeld.{Absent, At as HeldAt}
use Rattle.outgoing_field.specs.Fate.{fate_of, is_held, held_from, held_of}
use Rattle.header_stop.specs.HeaderStopLaws.{line_stop_lem}
use Rattle.offset.specs.Offset.{front_line, line_start, line_at, orcpt_byte, fault_byte, fault_offset, orcpt_offset, header_line_offset, field_offset}
use Rattle.offset.specs.OffsetLaws.{front_within, fault_inside, orcpt_inside}
use Rattle.call.specs.declared.Refusal.{Refusal}
use Rattle.call.specs.declared.Refusal.TheVariants.{EnvelopeOver, EnvelopeLine, OrcptLine, EnvelopeNeeds, Header}
use Rattle.outgoing_header.specs.declared.HeaderRefusal.TheVariants.{Over, Line, Held, Needs}
use Rattle.outgoing_header.specs.HeaderOutcome.{of_size, of_lines, of_held, of_room, number_of as header_number, place_of as header_place, offset_of as header_offset}
use Rattle.outgoing_header.proofs.HeaderOutcomeLaws.{size_over, size_within, room_short, room_enough}
use Rattle.outgoing_header.proofs.HeaderBoundLaws.{malformed_le, header_line_le, held_le, field_offset_le}
use Rattle.outgoing_field.proofs.MostLaws.{most_le}
use Rattle.call.specs.OutgoingHeader.{new_fields_most, outgoing_header}
use Rattle.call.specs.Outcome.{number_of, input_of, place_of, offset_of, over, of_envelope, of_header, of_orcpt, first_of, verdict, Outcome, outcome_of, outcome}
use Rattle.call.proofs.OutputLaws.{over_yes, over_no, outgoing_le}
use Rattle.call.specs.BoundLaws.{greatest32}

-- ---- places and offsets

-- the line of a fault
abbrev FaultWithin : ℕ → Result ℕ FaultAt → Type 0
FaultWithin n (Ok count) = Unit {0}
FaultWithin n (Err at) = at.line ≤ n

checked_within : (rules : Rules) (n : ℕ) (ls : List (List ℕ)) → n ≤ 101 → FaultWithin 101 (checked_from rules n ls)
unfolding checked_from counted
checked_within rules n [] k = cond_has (FaultWithin 101) (ltb n 2) _ _ (λ t. k) (λ t. tt)
checked_within rules n (line ∷ more) k =
    by_fault (fault_of rules n line)
    (λ f. rw f (checked_within rules (suc n) more (omega (arith, fine_few rules n line f))))
    (λ fault f. rw f k)

fault_line_le : (rules : Rules) (e : List ℕ) (fault : Fault) (line : ℕ) → checked rules e ≡ refused fault line → line ≤ 101
unfolding checked
fault_line_le rules e fault line q = rw q at (checked_within rules 0 (lines e) (omega arith))

fault_offset_le : (e : List ℕ) (fault : Fault) (n : ℕ) → fault_offset e fault n ≤ length e
unfolding fault_offset line_at
fault_offset_le e fault n = fault_inside e n (line_start n e) refl refl fault (fault_byte fault n (line_at n e)) refl

-- the line of an ORCPT
data OrcptWithin (n : ℕ) : Option ℕ → Type 0 where
  clean : OrcptWithin n None
  at_line : {line : ℕ} → line ≤ n → OrcptWithin n (Some line)

orcpt_within : (n m : ℕ) (ts : List (List ℕ)) → n + length ts ≤ m → OrcptWithin m (orcpt_from n ts)
unfolding orcpt_from
orcpt_within n m [] k = clean
orcpt_within n m (text ∷ more) k = cond_has (OrcptWithin m) (orcpt_fault (eqb n 0) text) (Some n) (orcpt_from (suc n) more) (λ t. at_line (omega arith)) (λ t. orcpt_within (suc n) m more (omega arith))

orcpt_line_lem : {n line : ℕ} → OrcptWithin n (Some line) → line ≤ n
orcpt_line_lem (at_line k) = k

orcpt_line_le : (e : List ℕ) (line : ℕ) → orcpt_line e ≡ Some line → line ≤ length e
unfolding orcpt_line texts lines
orcpt_line_le e line q =
    orcpt_line_lem (rw q at (orcpt_within 0 (length e) (texts e) (omega (arith, length-map (lines e) line_text, cut_few (λ rest. line_len rest + 2) e))))

orcpt_offset_le : (e : List ℕ) (n : ℕ) → orcpt_offset e n ≤ length e
unfolding orcpt_offset line_at
orcpt_offset_le e n = orcpt_inside e n (line_start n e) refl refl refl (orcpt_byte (eqb n 0) (line_text (line_at n e))) refl

-- ---- by verdict

-- a first verdict either accepts, and the next ones decide, or is the answer
module _ (rules : Rules) (P : Verdict → Type 0) (more : List Verdict) where
  first_over : (limit size : ℕ) (refusal : Refusal) → (size ≤ limit → P (first_of more)) → (limit < size → P (Err refusal)) → P (first_of (over limit size refusal ∷ more))
  unfolding first_of
  first_over limit size refusal f g =
      by_test (ltb limit size)
      (λ t. let k = ltb_yes {a = limit} {b = size} t in rw (over_yes limit size refusal k) (g k))
      (λ t. let k = ltb_no {a = limit} {b = size} t in rw (over_no limit size refusal k) (f k))

  first_envelope : (e : List ℕ) → ((count : ℕ) → checked rules e ≡ Ok count → P (first_of more))
      → ((fault : Fault) (line : ℕ) → checked rules e ≡ refused fault line → P (Err (EnvelopeLine fault line (fault_offset e fault line))))
      → P (first_of (of_envelope e (checked rules e) ∷ more))
  unfolding first_of of_envelope
  first_envelope e f g = go (checked rules e) refl
    where
      go : (r : Result ℕ FaultAt) → checked rules e ≡ r → P (first_of (of_envelope e r ∷ more))
      go (Ok count) q = f count q
      go (Err at) q = g at.fault at.line q

  first_size : (h : List ℕ) → (length h ≤ 32768 → P (first_of more)) → (32768 < length h → P (Err (Header Over))) → P (first_of (of_header (of_size h) ∷ more))
  unfolding first_of of_header
  first_size h f g =
      by_test (ltb 32768 (length h))
      (λ t. let k = ltb_yes {a = 32768} {b = length h} t in rw (size_over h k) (g k))
      (λ t. let k = ltb_no {a = 32768} {b = length h} t in rw (size_within h k) (f k))

  first_room : (room size : ℕ) → (size ≤ room → P (first_of more)) → (room < size → P (Err (Header (Needs size)))) → P (first_of (of_header (of_room room size) ∷ more))
  unfolding first_of of_header
  first_room room size f g =
      by_test (ltb room size)
      (λ t. let k = ltb_yes {a = room} {b = size} t in rw (room_short room size k) (g k))
      (λ t. let k = ltb_no {a = room} {b = size} t in rw (room_enough room size k) (f k))

  first_lines : (h : List ℕ) → (checked_lines h ≡ Ok tt → P (first_of more))
      → ((line at : ℕ) → checked_lines h ≡ bad_line line at → P (Err (Header (Line line (header_line_offset h line at)))))
      → P (first_of (of_header (of_lines h (checked_lines h)) ∷ more))
  unfolding first_of of_lines of_header
  first_lines h f g = go (checked_lines h) refl
    where
      go : (r : LineCheck) → checked_lines h ≡ r → P (first_of (of_header (of_lines h r) ∷ more))
      go (Ok tt) q = f q
      go (Err bad) q = g bad.line bad.at q

  first_orcpt : (e : List ℕ) → P (first_of more) → ((line : ℕ) → orcpt_line e ≡ Some line → P (Err (OrcptLine line (orcpt_offset e line)))) → P (first_of (of_orcpt e (orcpt_line e) ∷ more))
  unfolding first_of of_orcpt
  first_orcpt e f g = go (orcpt_line e) refl
    where
      go : (r : Option ℕ) → orcpt_line e ≡ r → P (first_of (of_orcpt e r ∷ more))
      go None q = f
      go (Some line) q = g line q

  first_held_lem : (h : List ℕ) → P (first_of more) → ((line at : ℕ) → held_of rules h ≡ HeldAt line at → P (Err (Header (Held line (field_offset h at))))) → P (first_of (of_header (of_held h (held_of rules h)) ∷ more))
  unfolding first_of of_held of_header
  first_held_lem h f g = go (held_of rules h) refl
    where
      go : (r : FirstHeld) → held_of rules h ≡ r → P (first_of (of_header (of_held h r) ∷ more))
      go Absent q = f
      go (HeldAt line at) q = g line at q

record SmallRefusal (refusal : Refusal) : Type 0 where
  number : number_of refusal ≤ 10
  place : place_of refusal ≤ greatest32
  offset : offset_of refusal ≤ greatest32

record Fitting (rules : Rules) (e h : List ℕ) (room₁ room₂ : ℕ) : Type 0 where
  fits₁ : length (written e) ≤ room₁
  fits₂ : length (outgoing_header rules e h) ≤ room₂
  small₁ : length (written e) ≤ greatest32
  small₂ : length (outgoing_header rules e h) ≤ greatest32

data Bound (rules : Rules) (e h : List ℕ) (room₁ room₂ : ℕ) : Verdict → Type 0 where
  fitting : Fitting rules e h room₁ room₂ → Bound rules e h room₁ room₂ (Ok tt)
  small : {refusal : Refusal} → SmallRefusal refusal → Bound rules e h room₁ room₂ (Err refusal)

fault_number_le : (fault : Fault) → fault_number fault ≤ 10
unfolding fault_number
fault_number_le Malformed = omega arith
fault_number_le NoAlternative = omega arith
fault_number_le BadAlternative = omega arith
fault_number_le RetiredAlternative = omega arith

module _ (rules : Rules) (e h : List ℕ) (room₁ room₂ : ℕ) where
  abbrev Bounds : Verdict → Type 0
  Bounds v = Bound rules e h room₁ room₂ v

  -- where the envelope and the header pass
  rooms_bound : length e ≤ 16384 → length h ≤ 32768 → (count : ℕ) → checked rules e ≡ Ok count → checked_lines h ≡ Ok tt
      → Bounds (first_of (over room₁ (length (written e)) (EnvelopeNeeds (length (written e))) ∷ of_header (of_room room₂ (length (outgoing_header rules e h))) ∷ []))
  unfolding first_of number_of place_of offset_of header_number header_place header_offset new_fields_most
  rooms_bound k l count p w =
      let n : length (written e) ≤ greatest32 = omega (arith, written_le rules e count p) in
      let m : length (outgoing_header rules e h) ≤ greatest32 = omega (arith, outgoing_le rules e h count p l w, most_le rules h l) in
      let last : Verdict = of_header (of_room room₂ (length (outgoing_header rules e h))) in
      first_over rules Bounds (last ∷ []) room₁ (length (written e)) (EnvelopeNeeds (length (written e)))
      (λ f.
      first_room rules Bounds [] room₂ (length (outgoing_header rules e h))
      (λ g. fitting (record { fits₁ = f; fits₂ = g; small₁ = n; small₂ = m }))
      (λ g. small (record { number = omega arith; place = m; offset = omega arith })))
      (λ f. small (record { number = omega arith; place = n; offset = omega arith }))

  verdict_bound : Bounds (verdict rules e h room₁ room₂)
  unfolding verdict number_of place_of offset_of header_number header_place header_offset
  verdict_bound =
      first_over rules Bounds _ 16384 (length e) EnvelopeOver
      (λ k.
      first_size rules Bounds _ h
      (λ l.
      first_envelope rules Bounds _ e
      (λ count p.
      first_lines rules Bounds _ h
      (λ w.
      first_orcpt rules Bounds _ e
      (first_held_lem rules Bounds _ h (rooms_bound k l count p w)
      (λ line at q. let z = held_le rules h line at q in small (record { number = omega arith; place = omega arith; offset = omega (arith, field_offset_le h at z.1) })))
      (λ line q. small (record { number = omega arith; place = omega (arith, orcpt_line_le e line q); offset = omega (arith, orcpt_offset_le e line) })))
      (λ line at q. let z = malformed_le h line at q in small (record { number = omega arith; place = omega arith; offset = omega (arith, header_line_le h line at z.1) })))
      (λ fault line q.
      small (record { number = fault_number_le fault; place = omega (arith, fault_line_le rules e fault line q); offset = omega (arith, fault_offset_le e fault line) })))
      (λ l. small (record { number = omega arith; place = omega arith; offset = omega arith })))
      (λ k. small (record { number = omega arith; place = omega arith; offset = omega arith }))

-- ---- the outcome

-- Every number of an outcome fits 32 bits; both lengths lie within their buffers, which keep theirs and what lies past the output; and a
-- refusal has no output.
pub record Bounded (b c : List ℕ) (o : Outcome) : Type 0 where
  pub number : o.number ≤ greatest32
  pub place : o.place ≤ greatest32
  pub offset : o.offset ≤ greatest32
  pub envelope_len_lem : o.envelope_len ≤ greatest32
  pub header_len_lem : o.header_len ≤ greatest32
  pub room₁ : o.envelope_len ≤ length b
  pub room₂ : o.header_len ≤ length c
  pub size₁ : length o.envelope_buffer ≡ length b
  pub size₂ : length o.header_buffer ≡ length c
  pub past₁ : drop o.envelope_len o.envelope_buffer ≡ drop o.envelope_len b
  pub past₂ : drop o.header_len o.header_buffer ≡ drop o.header_len c
  pub refused : (o.number ≡ 0 → ⊥) → (o.envelope_len ≡ 0) × (o.header_len ≡ 0)

-- what a refusal answers and leaves
pub refused_bounded : (number input place offset : ℕ) (b c : List ℕ) → number ≤ greatest32 → place ≤ greatest32 → offset ≤ greatest32
    → Bounded b c (record {
      number = number;
      input = input;
      place = place;
      offset = offset;
      envelope_len = 0;
      header_len = 0;
      envelope_buffer = b;
      header_buffer = c;
    })
refused_bounded number input place offset b c n p o = record {
  number = n;
  place = p;
  offset = o;
  envelope_len_lem = omega arith;
  header_len_lem = omega arith;
  room₁ = omega arith;
  room₂ = omega arith;
  size₁ = refl;
  size₂ = refl;
  past₁ = refl;
  past₂ = refl;
  refused = λ z. (refl, refl);
}

pub outcome_bounded : (rules : Rules) (e h b c : List ℕ) → Bounded b c (outcome rules e h b c)
unfolding outcome outcome_of
outcome_bounded rules e h b c = go (verdict rules e h (length b) (length c)) (verdict_bound rules e h (length b) (length c))
  where
    go : (v : Verdict) → Bound rules e h (length b) (length c) v → Bounded b c (outcome_of rules v e h b c)
    go v (fitting f) = record {
      number = omega arith;
      place = omega arith;
      offset = omega arith;
      envelope_len_lem = f.small₁;
      header_len_lem = f.small₂;
      room₁ = f.fits₁;
      room₂ = f.fits₂;
      size₁ = length_overlay (written e) b;
      size₂ = length_overlay (outgoing_header rules e h) c;
      past₁ = overlay_past (written e) b;
      past₂ = overlay_past (outgoing_header rules e h) c;
      refused = λ z. absurd (z refl);
    }
    go (Err refusal) (small s) = refused_bounded (number_of refusal) (input_of refusal) (place_of refusal) (offset_of refusal) b c (omega (arith, s.number)) s.place s.offset
