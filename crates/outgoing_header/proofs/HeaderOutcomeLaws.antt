-- Laws of a header's outcome, case by case.
use Rattle.outgoing_header.specs.HeaderContent.{HeaderContent}
use Rattle.outgoing_header.specs.HeaderOutcome.{HeaderVerdict}
use Rattle.std.proofs.Math.Path.{◌≡◌, refl, sym}
use Rattle.std.proofs.Common.{ap, ◌∙◌, not-suc-le-zero, lt-ltb, le-ltb}
use Rattle.std.specs.Prelude.{true, false, List, [], ◌∷◌, ◌++◌, ℕ, ◌*◌, ◌≤◌, ◌<◌, ltb, Ok, Err, IsErrAnd}
use native.Mathlib.Omega.{arith}
use Rattle.std.proofs.Math.ListN.{length}
use Rattle.std.proofs.Math.Facts.{ltb_yes, ltb_no}
use Rattle.lists.specs.ListsLaws.{by_test}
use Rattle.buffer.specs.Buffer.{Wrote, AppendedCapped}
use Rattle.buffer.specs.BufferLaws.{wrote_of}
use Rattle.encoded_word.specs.Segments.{rendered}
use Rattle.header_line.specs.Lines.{checked_lines, LineCheck}
use Rattle.rules.specs.declared.Rules.{Rules}
use Rattle.outgoing_field.specs.Fate.{FirstHeld}
use Rattle.outgoing_field.specs.Fate.FirstHeld.{Absent, At}
use Rattle.outgoing_field.specs.Fate.{segments_of, header_written, limited, held_of}
use Rattle.outgoing_field.proofs.FateLaws.{limited_short, unheld_header}
use Rattle.outgoing_field.specs.Most.{most_of}
use Rattle.outgoing_field.proofs.MostLaws.{most_le}
use Rattle.outgoing_field.proofs.OwedLaws.{owed_header}
use Rattle.offset.specs.Offset.{field_offset}
use Rattle.outgoing_header.specs.declared.HeaderRefusal.{HeaderRefusal}
use Rattle.outgoing_header.specs.declared.HeaderRefusal.TheVariants.{Over, Held, Needs}
use Rattle.outgoing_header.specs.declared.HeaderAnswer.{HeaderAnswer}
use Rattle.outgoing_header.specs.HeaderContent.{with_most}
use Rattle.outgoing_header.specs.HeaderOutcome.{number_of, place_of, offset_of, of_size, of_lines, of_held, of_room, first_of, header_out, header_verdict, header_outcome_of, header_outcome, header_observed}
use Rattle.outgoing_header.specs.HeaderOutcomeLaws.{Needed, Passed, RefusedBy}

-- ---- size and room

pub size_over : (h : List ℕ) → 32768 < length h → of_size h ≡ Err Over
unfolding of_size
size_over h k = rw (lt-ltb 32768 (length h) k)

pub size_within : (h : List ℕ) → length h ≤ 32768 → of_size h ≡ (Ok tt)
unfolding of_size
size_within h k = rw (le-ltb 32768 (length h) k)

pub room_short : (room size : ℕ) → room < size → of_room room size ≡ Err (Needs size)
unfolding of_room
room_short room size k = rw (lt-ltb room size k)

pub room_enough : (room size : ℕ) → size ≤ room → of_room room size ≡ (Ok tt)
unfolding of_room
room_enough room size k = rw (le-ltb room size k)

pub needed_size : {size room r : ℕ} → r ≡ size → Needed size room r
needed_size e = record { enough = λ k. rw e at k; exact = λ k. e }

-- a room that holds a size need not be measured
pub needed_none : {size room : ℕ} → size ≤ room → Needed size room 0
needed_none k = record { enough = λ z. k; exact = λ z. absurd (not-suc-le-zero z) }

module _ {rules : Rules} {h : List ℕ} (p : Passed rules h) where
  pub out_le : length (header_out rules h) ≤ most_of rules h
  unfolding header_out segments_of
  out_le = (owed_header rules h p.lines).short

  pub out_wrote : {before after : List ℕ} {r : ℕ} → AppendedCapped (rendered (header_written rules (limited h))) 0 before after r → Wrote (header_out rules h) before after r
  unfolding header_out
  out_wrote a = wrote_of (rw (limited_short h p.short, ← (unheld_header rules h p.none)) at a) (omega (arith, out_le, most_le rules h p.short))

  -- a room that holds the most
  pub ample : {room n : ℕ} → n ≡ most_of rules h → n ≤ room → Needed (length (header_out rules h)) room 0
  ample e k = needed_none (omega (arith, out_le, e))

-- ---- a verdict with the most

-- what tells a verdict that passes, or fails
pub with_passes : (v : HeaderVerdict) (n : ℕ) {m : ℕ} → with_most v n ≡ Ok m → (v ≡ (Ok tt)) × (m ≡ n)
unfolding with_most
with_passes (Ok tt) n {m} e = (refl, let k : m ≡ n = cc in k)
with_passes (Err refusal) n e = absurd (let z : ◌≡◌ {A = ℕ} 0 1 = cc in omega arith)

pub with_fails : (v : HeaderVerdict) (n : ℕ) {refusal : HeaderRefusal} → with_most v n ≡ Err refusal → v ≡ Err refusal
unfolding with_most
with_fails (Ok tt) n e = absurd (let z : ◌≡◌ {A = ℕ} 0 1 = cc in omega arith)
with_fails (Err r) n {refusal} e = let k : r ≡ refusal = cc in ap Err k

-- a walk that found no held field, or one
module _ (rules : Rules) (h s : List ℕ) where
  pub held_absent : {most : ℕ} → (held_of rules s ≡ Absent) × (most ≡ most_of rules s) → Ok most ≡ with_most (of_held h (held_of rules s)) (most_of rules s)
  unfolding with_most of_held
  held_absent l = rw (l.0, l.1)

  pub held_found : {line at n : ℕ} → held_of rules s ≡ At line at → n ≡ field_offset h at → Err (Held line n) ≡ with_most (of_held h (held_of rules s)) (most_of rules s)
  unfolding with_most of_held
  held_found l k = rw (l, k)

-- ---- refusals

-- where a verdict refuses, so does the call
pub refused_observed : (rules : Rules) (h c : List ℕ) {refusal : HeaderRefusal} {r : HeaderAnswer} → header_verdict rules h (length c) ≡ Err refusal → RefusedBy refusal r
    → header_observed r c ≡ header_outcome rules h c
unfolding header_outcome header_outcome_of
refused_observed rules h c v a = rw (v, a.number, a.place, a.offset, a.none)

-- the refusals that the buffer does not decide
abbrev pub of_content : Rules → List ℕ → List HeaderVerdict
of_content rules h = of_size h ∷ of_lines h (checked_lines h) ∷ of_held h (held_of rules h) ∷ []

-- the same, as code finds them
first_one : (v : HeaderVerdict) → first_of (v ∷ []) ≡ v
unfolding first_of
first_one (Ok tt) = refl
first_one (Err refusal) = refl

module _ (rules : Rules) (h : List ℕ) where
  pub over_content : (n : ℕ) → 32768 < length h → Err Over ≡ with_most (first_of (of_content rules h)) n
  unfolding first_of with_most
  over_content n k = rw (size_over h k)

  module _ (s : length h ≤ 32768) {v : HeaderVerdict} (e : v ≡ of_lines h (checked_lines h)) where
    line_refused : (n : ℕ) {refusal : HeaderRefusal} → v ≡ Err refusal → Err refusal ≡ with_most (first_of (of_content rules h)) n
    unfolding first_of with_most
    line_refused n k = rw (size_within h s, ← e, k)

    pub line_content : (n : ℕ) (refusal : HeaderRefusal) (r : HeaderContent) → v ≡ Err refusal → IsErrAnd r (λ x. x ≡ refusal) → r ≡ with_most (first_of (of_content rules h)) n
    line_content n refusal (Ok most) k a = absurd a
    line_content n refusal (Err other) k a = rw a (line_refused n k)

    pub held_content : (n : ℕ) {w : HeaderContent} → v ≡ (Ok tt) → w ≡ with_most (of_held h (held_of rules (limited h))) n → w ≡ with_most (first_of (of_content rules h)) n
    unfolding first_of
    held_content n k q = rw (limited_short h s) at q ∙ rw (size_within h s, ← e, k) (ap (λ v. with_most v n) (sym (first_one (of_held h (held_of rules h)))))

-- of verdicts one after another
first_refused : (a b : List HeaderVerdict) (refusal : HeaderRefusal) → first_of a ≡ Err refusal → first_of (a ++ b) ≡ Err refusal
unfolding first_of
first_refused [] b refusal k = absurd (let z : ◌≡◌ {A = ℕ} 0 1 = cc in omega arith)
first_refused ((Ok tt) ∷ a) b refusal k = first_refused a b refusal k
first_refused (Err r ∷ a) b refusal k = k

first_accepted : (a b : List HeaderVerdict) → first_of a ≡ (Ok tt) → first_of (a ++ b) ≡ first_of b
unfolding first_of
first_accepted [] b k = refl
first_accepted ((Ok tt) ∷ a) b k = first_accepted a b k
first_accepted (Err r ∷ a) b k = absurd (let z : ◌≡◌ {A = ℕ} 0 1 = cc in omega arith)

module _ (rules : Rules) (h : List ℕ) (room : ℕ) where
  pub content_refused : {refusal : HeaderRefusal} → first_of (of_content rules h) ≡ Err refusal → header_verdict rules h room ≡ Err refusal
  unfolding header_verdict
  content_refused {refusal} k = first_refused (of_content rules h) (of_room room (length (header_out rules h)) ∷ []) refusal k

  pub passed_verdict : Passed rules h → header_verdict rules h room ≡ first_of (of_room room (length (header_out rules h)) ∷ [])
  unfolding header_verdict first_of of_lines of_held
  passed_verdict p = rw (size_within h p.short, p.lines, p.none)

-- content that is not refused
module _ (rules : Rules) (h : List ℕ) where
  by_content : length h ≤ 32768 → (l : LineCheck) → checked_lines h ≡ l → (f : FirstHeld) → held_of rules h ≡ f → first_of (of_lines h l ∷ of_held h f ∷ []) ≡ (Ok tt) → Passed rules h
  unfolding first_of of_lines of_held
  by_content s (Ok tt) l Absent f k = record { short = s; lines = l; none = f }
  by_content s (Ok tt) l (At line at) f k = absurd (let z : ◌≡◌ {A = ℕ} 0 1 = cc in omega arith)
  by_content s (Err bad) l held f k = absurd (let z : ◌≡◌ {A = ℕ} 0 1 = cc in omega arith)

  pub content : first_of (of_content rules h) ≡ (Ok tt) → Passed rules h
  unfolding first_of
  content k =
      by_test (ltb 32768 (length h))
      (λ t. absurd (never (rw (size_over h (ltb_yes {a = 32768} {b = length h} t)) at k)))
      (λ t. let s = ltb_no {a = 32768} {b = length h} t in by_content s (checked_lines h) refl (held_of rules h) refl (rw (size_within h s) at k))
    where
      never : ◌≡◌ {A = HeaderVerdict} (Err Over) (Ok tt) → ⊥
      never e = let z : ◌≡◌ {A = ℕ} 0 1 = cc in omega arith

-- ---- by the buffer

module _ {rules : Rules} {h : List ℕ} (p : Passed rules h) (c : List ℕ) where
  pub too_long : {m : ℕ} {a : HeaderAnswer} → Needed (length (header_out rules h)) (length c) m → length c < m → RefusedBy (Needs m) a → header_observed a c ≡ header_outcome rules h c
  unfolding first_of
  too_long {m} d l f =
      let e : m ≡ length (header_out rules h) = d.exact l in
      refused_observed rules h c (passed_verdict rules h (length c) p ∙ rw (room_short (length c) (length (header_out rules h)) (rw e at l))) (rw e at f)

  pub written_out : {m : ℕ} {c' : List ℕ} {a : HeaderAnswer} → Needed (length (header_out rules h)) (length c) m → m ≤ length c → a.number ≡ 0 → a.place ≡ 0 → a.offset ≡ 0
      → Wrote (header_out rules h) c c' a.length → header_observed a c' ≡ header_outcome rules h c
  unfolding first_of header_outcome header_outcome_of
  written_out {m} {c'} {a} d l x y z w =
      let fine : header_verdict rules h (length c) ≡ (Ok tt) = passed_verdict rules h (length c) p ∙ rw (room_enough (length c) (length (header_out rules h)) (d.enough l)) in
      rw (fine, x, y, z, w.size, w.bytes)

-- content that passes
pub content_passes : (rules : Rules) (h : List ℕ) {m : ℕ} → with_most (first_of (of_content rules h)) (most_of rules (limited h)) ≡ Ok m → Passed rules h × (m ≡ most_of rules h)
content_passes rules h {m} e =
    let both = with_passes (first_of (of_content rules h)) (most_of rules (limited h)) e in
    let p = content rules h both.0 in
    (p, rw (limited_short h p.short) at both.1)
