-- Laws of the reader's calls, as code makes them.
use Rattle.std.specs.Prelude.{◌≡◌, Bool, List, [], ◌∷◌, ℕ, zero, suc, ◌+◌, ◌-◌, ◌≤◌, ◌<◌, min, T, leb, ltb, length, take, drop}
use Rattle.std.proofs.Math.Path.{refl, sym}
use Rattle.std.proofs.Common.{ap, ◌∙◌, not-suc-le-zero, length-drop, drop_of_length-le, drop-drop}
use Rattle.std.proofs.Math.Bool.{true, false, cond}
use native.Mathlib.Omega.{arith}
use Rattle.std.proofs.Math.Dec.{eqb, eqb→eq}
use borrow.Author.Tests.{eq-eqb, ne_eqb, lt-ltb, le-ltb, le-leb, lt-leb}
use Rattle.lists.specs.ListsLaws.{yes_true, no_false}
use Rattle.buffer.specs.Buffer.{overlay, Wrote}
use Rattle.letter_case.specs.LetterCase.{bytes, same_any_case}
use Rattle.line.specs.Line.{line_len}
use Rattle.line.specs.LineLaws.{line_le}
use Rattle.header.specs.Fields.{field_len}
use Rattle.std.specs.Prelude.{Some, None, Ok, Err, IsErrAnd}
use Rattle.std.specs.declared.option.Option.{Option}
use Rattle.std.specs.declared.result.Result.{Result}
use Rattle.downgraded_field.specs.declared.FieldFault.{FieldFault}
use Rattle.downgraded_field.specs.Shown.{field_read, field_text}
use Rattle.downgraded_reader.specs.declared.Unread.{Unread}
use Rattle.downgraded_reader.specs.declared.Unread.TheVariants.{Fault, Room}
use Rattle.downgraded_reader.specs.declared.Found.{Found}
use Rattle.downgraded_reader.specs.declared.ReadAnswer.{ReadAnswer}
use Rattle.downgraded_reader.specs.Reader.{is_downgraded, first_line, to_field_after, field_start, field_at, fitting, of_field, reading, text_left, left_by, buffer_after, number_of, start_of, next_of, length_of, outcome, observed}

-- ---- where lines begin

module _ (h : List ℕ) (place : ℕ) where
  pub line_first : place ≡ 0 → 0 ≡ first_line h place
  unfolding first_line
  line_first e = rw e refl

  pub line_later : {c e : ℕ} → (place ≡ 0 → ⊥) → c ≡ min place 2 → e ≡ place - c + line_len (drop (place - c) h) → e + 2 ≡ first_line h place
  unfolding first_line
  line_later {c} {e} k p q = let m : place - c ≡ place - 2 = omega arith in rw (ne_eqb place 0 k, q, m) refl

  pub line_up : place ≤ first_line h place
  unfolding first_line
  line_up = by (eqb place 0) refl
    where
      by : (t : Bool) → eqb place 0 ≡ t → place ≤ cond t 0 (place - 2 + line_len (drop (place - 2) h) + 2)
      by true e = omega (arith, eqb→eq place 0 (rw e tt))
      by false e = omega arith

pub end_inside : (h : List ℕ) (from : ℕ) {e : ℕ} → from ≤ length h → e ≡ from + line_len (drop from h) → e ≤ length h
end_inside h from k q = omega (arith, line_le (drop from h), length-drop from h)

pub downgraded_by : (h : List ℕ) (at : ℕ) {part name : List ℕ} {r : Bool} → part ≡ take (at + 11 - at) (drop at h) → name ≡ bytes "Downgraded-" → r ≡ same_any_case part name → r ≡ is_downgraded (drop at h)
unfolding is_downgraded
downgraded_by h at p n e = let m : at + 11 - at ≡ 11 = omega arith in e ∙ rw (p, n, m) refl

-- ---- where fields begin

to_skip : (k : ℕ) (s : List ℕ) → to_field_after k s ≡ k + to_field_after 0 (drop k s)
unfolding to_field_after
to_skip zero s = omega arith
to_skip (suc k) [] = omega arith
to_skip (suc k) (b ∷ s) = let r = to_skip k s in omega arith

pub to_next : (s : List ℕ) → 0 < length s → is_downgraded s ≡ false → to_field_after 0 s ≡ line_len s + 2 + to_field_after 0 (drop (line_len s + 2) s)
unfolding to_field_after
to_next [] h e = absurd (not-suc-le-zero h)
to_next (b ∷ s) h e =
    let n = line_len (b ∷ s) in
    let two : n + 2 ≡ suc (n + 1) = omega arith in
    rw (e, two, to_skip (n + 1) s) (omega arith)

pub to_here : (s : List ℕ) → 0 < length s → is_downgraded s ≡ true → to_field_after 0 s ≡ 0
unfolding to_field_after
to_here [] h e = absurd (not-suc-le-zero h)
to_here (b ∷ s) h e = rw e refl

-- where a search stands
pub record Searching (h : List ℕ) (place at : ℕ) : Type 0 where
  pub same : field_start h place ≡ at + to_field_after 0 (drop at h)

pub searching_start : {h : List ℕ} {place at : ℕ} → at ≡ first_line h place → Searching h place at
unfolding field_start
searching_start e = record { same = rw e refl }

module _ {h : List ℕ} {place at : ℕ} (w : Searching h place at) where
  pub searching_found : at < length h → is_downgraded (drop at h) ≡ true → at ≡ field_start h place
  searching_found k e = let z = to_here (drop at h) (rw length-drop (omega arith)) e in sym (w.same ∙ omega arith)

  pub searching_next : {e : ℕ} → at < length h → is_downgraded (drop at h) ≡ false → e ≡ at + line_len (drop at h) → Searching h place (e + 2)
  searching_next {e} k n q =
      let x = drop at h in
      let to : at + (line_len x + 2) ≡ e + 2 = omega arith in
      let z = to_next x (rw length-drop (omega arith)) n in
      record { same = w.same ∙ rw (z, drop-drop, to) (omega arith) }

  pub searching_end : length h ≤ at → at ≡ field_start h place
  unfolding to_field_after
  searching_end k = sym (w.same ∙ rw (drop_of_length-le h {i = at} k) (omega arith))

-- ---- the answer

start_up : (h : List ℕ) (place : ℕ) → place ≤ field_start h place
unfolding field_start
start_up h place = omega (arith, line_up h place)

module _ (h : List ℕ) (place room : ℕ) where
  none_read : length h ≤ field_start h place → reading h place room ≡ None
  unfolding reading
  none_read k = rw (le-ltb (field_start h place) (length h) k) refl

module _ (h : List ℕ) (place : ℕ) (buffer : List ℕ) where
  none_left : length h ≤ field_start h place → (None ≡ reading h place (length buffer)) × (buffer ≡ buffer_after h place buffer)
  unfolding buffer_after left_by
  none_left k = let n = none_read h place (length buffer) k in (sym n, rw n refl)

  pub read_past : length h ≤ place → (None ≡ reading h place (length buffer)) × (buffer ≡ buffer_after h place buffer)
  read_past k = none_left (omega (arith, start_up h place))

  pub read_none : {start : ℕ} → start ≡ field_start h place → length h ≤ start → (None ≡ reading h place (length buffer)) × (buffer ≡ buffer_after h place buffer)
  read_none e k = none_left (omega arith)

  module _ {start next : ℕ} {field : List ℕ} {text : Result ℕ Unread} {after : List ℕ} (e : start ≡ field_start h place) (k : start < length h) (n : next ≡ start + field_len (drop start h))
      (f : field ≡ take (next - start) (drop start h)) (a : (text ≡ fitting (length buffer) (field_read field)) × (after ≡ text_left text (field_text field) buffer)) where
    field_is : field ≡ field_at h start
    unfolding field_at
    field_is = let size : next - start ≡ field_len (drop start h) = omega arith in f ∙ ap (λ (m : ℕ). take m (drop start h)) size

    found_is : reading h place (length buffer) ≡ Some (record { start = start; next = next; text = text })
    unfolding reading of_field
    found_is = rw (← e, lt-ltb start (length h) k, ← n, ← field_is, ← a.0) refl

    pub read_found : (Some (record { start = start; next = next; text = text }) ≡ reading h place (length buffer)) × (after ≡ buffer_after h place buffer)
    unfolding buffer_after left_by
    read_found = (sym found_is, rw (found_is, ← e, ← field_is) a.1)

-- what a field's reading becomes
module _ (room : ℕ) (field : List ℕ) where
  pub text_room : {size : ℕ} → Ok size ≡ field_read field → room < size → Err (Room size) ≡ fitting room (field_read field)
  unfolding fitting
  text_room {size} e k = rw (← e, lt-leb size room k) refl

  pub text_fits : {size : ℕ} → Ok size ≡ field_read field → size ≤ room → Ok size ≡ fitting room (field_read field)
  unfolding fitting
  text_fits {size} e k = rw (← e, le-leb size room k) refl

pub text_fault : (room : ℕ) (field : List ℕ) (fault : FieldFault) (r : Result ℕ Unread) (buffer : List ℕ) → Err fault ≡ field_read field → IsErrAnd r (λ why. why ≡ Fault fault)
    → (r ≡ fitting room (field_read field)) × (buffer ≡ text_left r (field_text field) buffer)
unfolding fitting text_left
text_fault room field fault (Ok size) buffer e a = absurd a
text_fault room field fault (Err why) buffer e a = (rw (← e, a) refl, refl)

-- ---- by numbers

pub record NumberedBy (end : ℕ) (r : Option Found) (a : ReadAnswer) : Type 0 where
  pub number : a.number ≡ number_of r
  pub start : a.start ≡ start_of end r
  pub next : a.next ≡ next_of end r
  pub size : a.length ≡ length_of r

pub outcome_is : (h : List ℕ) (place : ℕ) (buffer : List ℕ) {after : List ℕ} {r : Option Found} {a : ReadAnswer} → (r ≡ reading h place (length buffer)) × (after ≡ buffer_after h place buffer)
    → NumberedBy (length h) r a → observed a after ≡ outcome h place buffer
unfolding outcome
outcome_is h place buffer e n = rw (← e.0, ← e.1, ← n.number, ← n.start, ← n.next, ← n.size) refl
