-- Laws of calls one after another: as code makes them, and the place of each.
use Rattle.std.specs.Prelude.{◌≡◌, refl, List, leb, length, drop}
use Rattle.std.proofs.Math.Path.{ap, sym}
use Rattle.std.proofs.Common.{◌∙◌, add-zero, lt-ltb}
use Prim.Native.Nat.{ℕ, suc, ◌+◌, ◌-◌, ◌<◌}
use native.Mathlib.Omega.{arith}
use Rattle.buffer.specs.BufferLaws.{length_overlay}
use Rattle.lists.specs.ListsLaws.{cond_has}
use Rattle.header.specs.Fields.{field_len}
use Rattle.std.specs.Prelude.{Some, None, Ok, Err}
use Rattle.std.specs.declared.option.Option.{Option}
use Rattle.std.specs.declared.result.Result.{Result}
use Rattle.downgraded_field.specs.declared.FieldFault.{FieldFault}
use Rattle.downgraded_field.specs.Shown.{field_read, field_text}
use Rattle.downgraded_reader.specs.declared.Found.{Found}
use Rattle.downgraded_reader.specs.declared.Unread.{Unread}
use Rattle.downgraded_reader.specs.declared.ReadAnswer.{ReadAnswer}
use Rattle.downgraded_reader.specs.Reader.{field_start, field_at, of_field, text_left, left_by, reading, buffer_after, next_of, Outcome, outcome, observed}
use Rattle.reader_grammar.specs.CallLaws.{Reached}
use Rattle.read_back.specs.Calls.{outcome_after}

-- ---- their places

text_left_length : (r : Result ℕ Unread) (text buffer : List ℕ) → length (text_left r text buffer) ≡ length buffer
unfolding text_left
text_left_length (Ok size) text buffer = length_overlay text buffer
text_left_length (Err why) text buffer = refl

left_length : (r : Option Found) (text buffer : List ℕ) → length (left_by r text buffer) ≡ length buffer
unfolding left_by
left_length None text buffer = refl
left_length (Some field) text buffer = text_left_length field.text text buffer

module _ (h : List ℕ) (place : ℕ) (buffer : List ℕ) where
  next_is : field_start h place < length h → (outcome h place buffer).next ≡ field_start h place + field_len (drop (field_start h place) h)
  unfolding outcome reading of_field next_of
  next_is k =
      let s = field_start h place in
      rw (lt-ltb s (length h) k) refl

  buffer_size : length (outcome h place buffer).buffer ≡ length buffer
  unfolding outcome buffer_after
  buffer_size = left_length (reading h place (length buffer)) (field_text (field_at h (field_start h place))) buffer

-- ---- as code makes them

pub record Going (h : List ℕ) (k : ℕ) (first : List ℕ) (place left : ℕ) (buffer : List ℕ) : Type 0 where
  pub same : outcome_after h place buffer left ≡ outcome_after h 0 first k
  pub size : length buffer ≡ length first

pub going_start : {h : List ℕ} {k : ℕ} {first : List ℕ} → Going h k first 0 k first
going_start = record { same = refl; size = refl }

module _ {h : List ℕ} {k : ℕ} {first : List ℕ} {place left : ℕ} {buffer : List ℕ} (g : Going h k first place left buffer) {a : ReadAnswer} {after : List ℕ} (e : observed a after ≡ outcome h place buffer) where
  going_size : length after ≡ length first
  going_size = ap (λ (o : Outcome). length o.buffer) e ∙ buffer_size h place buffer ∙ g.size

  pub going_on : 0 < left → Going h k first a.next (left - 1) after
  unfolding outcome_after
  going_on some =
      let one : suc (left - 1) ≡ left = omega arith in
      let step : outcome_after h place buffer (suc (left - 1)) ≡ outcome_after h a.next after (left - 1) =
      ap (λ (o : Outcome). outcome_after h o.next o.buffer (left - 1)) (sym e) in
      record { same = sym step ∙ ap (outcome_after h place buffer) one ∙ g.same; size = going_size }

  pub going_end : left ≡ 0 → observed a after ≡ outcome_after h 0 first k
  unfolding outcome_after
  going_end z = e ∙ rw z at g.same

-- ---- by their numbers

-- a call at a place, with a buffer of the same length
pub record CallAt (h first : List ℕ) (k place : ℕ) : Type 0 where
  pub buffer : List ℕ
  pub size : length buffer ≡ length first
  pub same : (j : ℕ) → outcome_after h 0 first (k + j) ≡ outcome_after h place buffer j

pub call_at : {h : List ℕ} {k place : ℕ} (first : List ℕ) → Reached h k place → CallAt h first k place
unfolding outcome_after
call_at {h} first Reached.first = record { buffer = first; size = refl; same = λ j. let z : 0 + j ≡ j = omega arith in ap (outcome_after h 0 first) z }
call_at {h} first (Reached.next {k} {q} r inside) =
    let c = call_at first r in
    record {
      buffer = (outcome h q c.buffer).buffer;
      size = buffer_size h q c.buffer ∙ c.size;
      same = λ j.
          let more : suc k + j ≡ k + suc j = omega arith in
          ap (outcome_after h 0 first) more ∙ c.same (suc j) ∙ ap (λ (p : ℕ). outcome_after h p (outcome h q c.buffer).buffer j) (next_is h q c.buffer inside);
    }

-- the call itself
pub call_is : {h first : List ℕ} {k place : ℕ} (c : CallAt h first k place) → outcome_after h 0 first k ≡ outcome h place c.buffer
unfolding outcome_after
call_is {h} {first} {k} c = rw (add-zero k) at (c.same 0)
