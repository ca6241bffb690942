-- Laws of the check: line by line, as code goes through an envelope.
use Rattle.std.specs.Prelude.{◌≡◌, refl, Bool, List, [], ◌∷◌, ◌++◌, ℕ, suc, ◌+◌, ◌-◌, ◌≤◌, ◌<◌, eqb, leb, take, drop, set, get_or, Result, Ok, Err, ⊤}
use Rattle.std.proofs.Math.Path.{ap, sym}
use Rattle.std.proofs.Common.{◌∙◌, add-one, arith, length-take, length-drop, drop-drop}
use Rattle.std.proofs.Math.Bool.{true}
use Rattle.std.proofs.Math.ListN.{length}
use borrow.Author.Tests.{eq-eqb, ne_eqb, le-ltb, le-leb, lt-leb}
use Rattle.std.proofs.Math.Facts.{leb_yes}
use Rattle.lists.specs.ListsLaws.{by_test, yes_true, no_false}
use Rattle.lists.specs.CutBy.{cut_by, cut_after}
use Rattle.buffer.specs.Buffer.{overlay, Reached}
use Rattle.buffer.specs.BufferLaws.{reached_start, reached_then, reached_end, appended_byte, wrote_from}
use Rattle.line.specs.Line.{crlf, line_len}
use Rattle.line.specs.LineLaws.{crlf_at_lem, crlf_inside}
use Rattle.address.specs.AddressLaws.{byte_within}
use Rattle.rules.specs.declared.Rules.{Rules}
use Rattle.envelope_line.specs.declared.Fault.{Fault}
use Rattle.envelope_line.specs.declared.Fault.TheVariants.{Malformed}
use Rattle.envelope_line.specs.EnvelopeLine.{line_fault}
use Rattle.envelope.specs.declared.FaultAt.{FaultAt}
use Rattle.envelope.specs.Envelope.{lines, line_text, ended_fault, fault_of, counted, checked_from, checked, refused, on_line}
use Rattle.envelope.specs.LineStarts.{starts_from, rcpt_starts, EnvelopeChecked}
use Rattle.envelope.proofs.LinesLaws.{fault_front, lines_end_lem, lines_at_lem, text_part}
use Rattle.envelope.specs.CheckLaws.{RcptsChecked}

-- ---- refusals

-- a refusal tells its line, and its fault
module _ {fault other : Fault} {n m : ℕ} (e : refused fault n ≡ refused other m) where
  same_at : ◌≡◌ {A = FaultAt} (record { fault = fault; line = n }) (record { fault = other; line = m })
  same_at = cc

  pub same_line : n ≡ m
  same_line = ap (λ (x : FaultAt). x.line) same_at

  pub same_fault : fault ≡ other
  same_fault = ap (λ (x : FaultAt). x.fault) same_at

-- a line without fault, or with one
pub by_fault : {P : Type 0} (r : Result ⊤ Fault) → (r ≡ Ok tt → P) → ((fault : Fault) → r ≡ Err fault → P) → P
by_fault (Ok none) f g = f refl
by_fault (Err fault) f g = g fault refl

-- ---- the line at a place; `end` is where its CRLF is due

module _ (s : List ℕ) (i end : ℕ) (d : end ≡ i + line_len (drop i s)) where
  crlf_due : crlf (drop (line_len (drop i s)) (drop i s)) ≡ crlf (drop end s)
  crlf_due = rw (drop-drop, ← d)

  module _ (mail : Bool) where
    pub front_no_cr : (rules : Rules) → (get_or s end 0 ≡ 13 → ⊥) → Err Malformed ≡ ended_fault rules mail (drop i s)
    unfolding ended_fault
    front_no_cr rules n = rw (crlf_due, crlf_at_lem s end, ne_eqb (get_or s end 0) 13 n)

    module _ (c : get_or s end 0 ≡ 13) where
      pub front_in : end < length s
      front_in = byte_within s end 12 c

      pub front_no_lf : (rules : Rules) → (get_or s (end + 1) 0 ≡ 10 → ⊥) → Err Malformed ≡ ended_fault rules mail (drop i s)
      unfolding ended_fault
      front_no_lf rules n = rw (crlf_due, crlf_at_lem s end, eq-eqb (get_or s end 0) 13 c, ne_eqb (get_or s (end + 1) 0) 10 n)

      pub front_line_lem : (rules : Rules) → get_or s (end + 1) 0 ≡ 10 → {l : List ℕ} {f : Result ⊤ Fault} → l ≡ take (end - i) (drop i s) → f ≡ line_fault rules mail l → f ≡ ended_fault rules mail (drop i s)
      unfolding ended_fault
      front_line_lem rules n e q = q ∙ rw (text_part s i end d e, crlf_due, crlf_at_lem s end, eq-eqb (get_or s end 0) 13 c, eq-eqb (get_or s (end + 1) 0) 10 n)

-- ---- a line without fault

module _ (rules : Rules) (mail : Bool) (line : List ℕ) (f : ended_fault rules mail line ≡ Ok tt) where
  pub ended : crlf (drop (line_len line) line) ≡ true
  unfolding ended_fault
  ended =
      by_test (crlf (drop (line_len line) line)) (yes_true (crlf (drop (line_len line) line)))
      (λ t. absurd (let q : ◌≡◌ {A = Result ⊤ Fault} (Err Malformed) (Ok tt) = rw (no_false (crlf (drop (line_len line) line)) t) at f in cc))

  pub ended_inside : line_len line + 2 ≤ length line
  ended_inside = crlf_inside line (line_len line) ended

  pub ended_fine : line_fault rules mail (line_text line) ≡ Ok tt
  unfolding ended_fault
  ended_fine = rw ended at f

module _ (rules : Rules) (n : ℕ) (line : List ℕ) (f : fault_of rules n line ≡ Ok tt) where
  pub fine_few : n ≤ 100
  unfolding fault_of
  fine_few = by_test (leb n 100) (λ t. leb_yes {a = n} {b = 100} t) (λ t. absurd (let q : ◌≡◌ {A = Result ⊤ Fault} (Err Malformed) (Ok tt) = rw (no_false (leb n 100) t) at f in cc))

  pub fine_ended : ended_fault rules (eqb n 0) line ≡ Ok tt
  unfolding fault_of
  fine_ended = rw (le-leb n 100 fine_few) at f

pub line_many : (rules : Rules) (n : ℕ) (line : List ℕ) → 100 < n → Err Malformed ≡ fault_of rules n line
unfolding fault_of
line_many rules n line h = rw (lt-leb n 100 h)

pub line_front : (rules : Rules) (n : ℕ) (line : List ℕ) → n ≤ 100 → ended_fault rules (eqb n 0) line ≡ fault_of rules n line
unfolding fault_of
line_front rules n line h = rw (le-leb n 100 h)

pub mail_line : (rules : Rules) (e : List ℕ) → fault_of rules 0 (drop 0 e) ≡ ended_fault rules true e
unfolding fault_of
mail_line rules e = refl

-- the fault of a line, with its number
pub on_line_ok : (n : ℕ) {found : Result ⊤ FaultAt} (r : Result ⊤ Fault) {x : ⊤} → found ≡ on_line n r → found ≡ Ok x → r ≡ Ok tt
on_line_ok n (Ok none) q p = refl
on_line_ok n (Err fault) q p = absurd (cc)

pub on_line_err : (n : ℕ) {found : Result ⊤ FaultAt} (r : Result ⊤ Fault) {at : FaultAt} → found ≡ on_line n r → found ≡ Err at → (r ≡ Err at.fault) × (refused at.fault n ≡ Err at)
on_line_err n (Ok none) q p = absurd (cc)
on_line_err n (Err fault) {at} q p =
    let same : ◌≡◌ {A = FaultAt} (record { fault = fault; line = n }) at = cc in
    (ap (λ (x : FaultAt). Err x.fault) same, rw (← same))

-- ---- one line after another

-- a line at a place without fault has its CRLF
pub fine_end : (rules : Rules) (s : List ℕ) (i end n : ℕ) → end ≡ i + line_len (drop i s) → fault_of rules n (drop i s) ≡ Ok tt → end + 2 ≤ length s
fine_end rules s i end n d f = omega (arith, ended_inside rules (eqb n 0) (drop i s) (fine_ended rules n (drop i s) f), length-drop i s)

module _ (rules : Rules) (s : List ℕ) (i n end : ℕ) (h : i < length s) (d : end ≡ i + line_len (drop i s)) where
  module _ (f : fault_of rules n (drop i s) ≡ Ok tt) where
    pub checked_step : checked_from rules n (lines (drop i s)) ≡ checked_from rules (n + 1) (lines (drop (end + 2) s))
    unfolding checked_from
    checked_step = rw (add-one, lines_at_lem s i end d h, fault_front (drop i s) rules n, f)

    pub starts_step : starts_from rules n i (lines (drop i s)) ≡ (i ∷ []) ++ starts_from rules (n + 1) (end + 2) (lines (drop (end + 2) s))
    unfolding starts_from
    starts_step =
        let m : i + length (take (line_len (drop i s) + 2) (drop i s)) ≡ end + 2 = rw (length-take, length-drop) (omega (arith, fine_end rules s i end n d f)) in
        rw (add-one, lines_at_lem s i end d h, fault_front (drop i s) rules n, f, m)

  module _ {fault : Fault} (f : fault_of rules n (drop i s) ≡ Err fault) where
    pub checked_stop : checked_from rules n (lines (drop i s)) ≡ refused fault n
    unfolding checked_from
    checked_stop = rw (lines_at_lem s i end d h, fault_front (drop i s) rules n, f)

    pub starts_stop : starts_from rules n i (lines (drop i s)) ≡ []
    unfolding starts_from
    starts_stop = rw (lines_at_lem s i end d h, fault_front (drop i s) rules n, f)

-- how far the check of the RCPT lines from a place on has come: n lines passed, the next at i
pub record RcptsReached (rules : Rules) (e : List ℕ) (at : ℕ) (before after : List ℕ) (n i : ℕ) : Type 0 where
  pub few : n ≤ 100
  pub answer : checked_from rules 1 (lines (drop at e)) ≡ checked_from rules (n + 1) (lines (drop i e))
  pub starts : Reached (starts_from rules 1 at (lines (drop at e))) (starts_from rules (n + 1) i (lines (drop i e))) 0 before after n

pub rcpts_start : (rules : Rules) (e : List ℕ) (at : ℕ) (before : List ℕ) → RcptsReached rules e at before before 0 at
rcpts_start rules e at before = record { few = omega arith; answer = refl; starts = reached_start (starts_from rules 1 at (lines (drop at e))) 0 before }

module _ {rules : Rules} {e before after : List ℕ} {at n i : ℕ} (k : RcptsReached rules e at before after n i) where
  module _ {f : Result ⊤ Fault} (end : ℕ) (h : i < length e) (d : end ≡ i + line_len (drop i e)) (q : f ≡ fault_of rules (n + 1) (drop i e)) where
    pub rcpts_more : f ≡ Ok tt → RcptsReached rules e at before (set after n i) (n + 1) (end + 2)
    rcpts_more p =
        let g : fault_of rules (n + 1) (drop i e) ≡ Ok tt = sym q ∙ p in
        record {
          few = fine_few rules (n + 1) (drop i e) g;
          answer = k.answer ∙ checked_step rules e i (n + 1) end h d g;
          starts = reached_then (i ∷ []) (starts_from rules (n + 1 + 1) (end + 2) (lines (drop (end + 2) e))) k.starts (starts_step rules e i (n + 1) end h d g) (appended_byte n i after);
        }

    pub rcpts_refused : {fault : Fault} → f ≡ Err fault → RcptsChecked rules e at before after (refused fault (n + 1))
    rcpts_refused {fault} p =
        let g : fault_of rules (n + 1) (drop i e) ≡ Err fault = sym q ∙ p in
        record {
          answer = (sym (k.answer ∙ checked_stop rules e i (n + 1) end h d g));
          starts = (wrote_from (reached_end k.starts (starts_stop rules e i (n + 1) end h d g))).bytes;
        }

  pub rcpts_passed : {r : Result ℕ FaultAt} → length e ≤ i → r ≡ counted (n + 1) → RcptsChecked rules e at before after r
  unfolding starts_from checked_from
  rcpts_passed h q =
      record {
        answer = q ∙ sym (k.answer ∙ ap (checked_from rules (n + 1)) (lines_end_lem e i h));
        starts = (wrote_from (reached_end k.starts (rw (lines_end_lem e i h)))).bytes;
      }

-- ---- the whole envelope

pub none_counted : (n : ℕ) → n ≡ 0 → refused Malformed 1 ≡ counted (n + 1)
unfolding counted
none_counted n e = rw e

pub some_counted : (n : ℕ) → (n ≡ 0 → ⊥) → Ok n ≡ counted (n + 1)
unfolding counted
some_counted n h = rw (add-one, le-ltb (suc n) 2 (omega arith))

empty_refused : (rules : Rules) (before : List ℕ) (fault : Fault) → ended_fault rules true [] ≡ Err fault → EnvelopeChecked rules [] before before (refused fault 0)
unfolding checked rcpt_starts lines cut_by cut_after counted checked_from starts_from ended_fault crlf line_len overlay
empty_refused rules before fault g = record { answer = let same : Malformed ≡ fault = cc in rw (← same); starts = refl }

front_refused : (rules : Rules) (e before : List ℕ) (fault : Fault) → 0 < length e → ended_fault rules true e ≡ Err fault → EnvelopeChecked rules e before before (refused fault 0)
unfolding checked rcpt_starts fault_of overlay
front_refused rules e before fault h g =
    record { answer = sym (checked_stop rules e 0 0 (line_len e) h (omega arith) g); starts = rw (starts_stop rules e 0 0 (line_len e) h (omega arith) g) }

module _ {rules : Rules} {e before : List ℕ} {f : Result ⊤ Fault} (q : f ≡ ended_fault rules true e) where
  pub mail_refused : {fault : Fault} → f ≡ Err fault → EnvelopeChecked rules e before before (refused fault 0)
  mail_refused {fault} p = go e (sym q ∙ p)
    where
      go : (e : List ℕ) → ended_fault rules true e ≡ Err fault → EnvelopeChecked rules e before before (refused fault 0)
      go [] g = empty_refused rules before fault g
      go (b ∷ s) g = front_refused rules (b ∷ s) before fault (omega arith) g

  pub mail_passed : {after : List ℕ} {r : Result ℕ FaultAt} (end : ℕ) → end ≡ 0 + line_len e → f ≡ Ok tt → RcptsChecked rules e (end + 2) before after r
      → EnvelopeChecked rules e before after r
  unfolding checked rcpt_starts fault_of
  mail_passed end d g k =
      let h : ended_fault rules true e ≡ Ok tt = sym q ∙ g in
      let l = ended_inside rules true e h in
      record {
        answer = k.answer ∙ sym (checked_step rules e 0 0 end (omega arith) d h);
        starts = k.starts ∙ rw (starts_step rules e 0 0 end (omega arith) d h);
      }
