-- Laws of the new first fields: their length, and their writing part by part.
use Rattle.std.specs.Prelude.{◌≡◌, refl, List, [], ◌∷◌, ℕ, ◌+◌, ◌*◌, ◌≤◌, length, take}
use Rattle.std.proofs.Common.{arith}
use Rattle.buffer.specs.Buffer.{Wrote, AppendedCapped, greatest}
use Rattle.buffer.specs.BufferLaws.{capped_none, overlay_front, length_wrote, wrote_of}
use Rattle.row.specs.Row.{bounded}
use Rattle.row.proofs.RowLaws.{bounded_short}
use Rattle.encoded_word.specs.Segments.{rendered}
use Rattle.field.specs.Field.{labelled_field}
use Rattle.field.proofs.FieldLaws.{length_labelled}
use Rattle.call.specs.OutgoingHeader.{new_field}

pub length_new_field : (label text : List ℕ) → length (rendered (new_field label text)) ≤ 30 + length label + 3 * length text
unfolding new_field rendered
length_new_field label [] = omega arith
length_new_field label (b ∷ text) = length_labelled label (b ∷ text)

pub new_field_none : (label text before : List ℕ) (at : ℕ) → length text ≡ 0 → at ≤ greatest → AppendedCapped (rendered (new_field label text)) at before before at
unfolding new_field rendered
new_field_none label [] before at e h = capped_none at before h
new_field_none label (b ∷ text) before at e h = absurd (omega arith)

pub new_field_some : (label text : List ℕ) {before after : List ℕ} {at r : ℕ} → (length text ≡ 0 → ⊥) → length text ≤ 2048
    → AppendedCapped (rendered (labelled_field label (bounded text))) at before after r → AppendedCapped (rendered (new_field label text)) at before after r
unfolding new_field
new_field_some label [] some short a = absurd (some refl)
new_field_some label (x ∷ text) some short a = rw (bounded_short (x ∷ text) (omega arith)) at a

-- a text that fits a buffer is found at its front
module _ {text before after : List ℕ} {n : ℕ} (a : AppendedCapped text 0 before after n) (k : length text ≤ 2048) (h : length before ≡ 2048) where
  found : Wrote text before after n
  found = wrote_of a (omega arith)

  pub found_within : n ≤ length after
  found_within = omega (arith, found.size, length_wrote found)

  pub found_front : take n after ≡ text
  found_front = rw (found.size, found.bytes) (overlay_front text before (omega arith))

  pub found_size : n ≡ length (take n after)
  found_size = rw found_front found.size
