-- Laws of written fields: their length, their soundness, and their writing part by part.
use Rattle.std.specs.Prelude.{◌≡◌, Bool, true, false, ℕ, ◌+◌, ◌*◌, ◌≤◌, ◌<◌, min, T, leb, length}
use Rattle.std.proofs.Common.{sym, ap, ◌∙◌, arith, lit≤, length-append}
use mathlib.Core.List.{List, [], ◌∷◌, ◌++◌, append_assoc}
use Rattle.std.proofs.Math.Facts.{yes_and, leb_yes, leb_no}
use Rattle.lists.specs.Byte.{is_ascii}
use Rattle.lists.specs.Lists.{all}
use Rattle.lists.specs.ListsLaws.{by_test, all_append}
use Rattle.utf8.specs.Utf8.{utf8}
use Rattle.buffer.specs.Buffer.{AppendedCapped, greatest}
use Rattle.buffer.specs.BufferLaws.{capped_then, capped_same, length_added}
use Rattle.row.specs.Row.{row_after}
use Rattle.row.proofs.RowLaws.{row_after_none, length_row_after_le}
use Rattle.encoded_word.specs.Segments.{Segment, rendered, sound}
use Rattle.encoded_word.specs.Segments.Segment.{raw}
use Rattle.encoded_word.specs.SegmentsLaws.{rendered_append}
use Rattle.letter_case.specs.LetterCase.{bytes}
use Rattle.field.specs.Field.{labelled_field, prefix, encoded_field, named}

-- ---- length

pub length_labelled : (label text : List ℕ) → length (rendered (labelled_field label text)) ≤ 30 + length label + 3 * length text
unfolding labelled_field rendered
length_labelled label text = simp length-append (omega (arith, length_row_after_le (length label) text))

length_prefix : (downgraded : Bool) → length (prefix downgraded) ≤ 11
unfolding prefix bytes
length_prefix true = lit≤ tt
length_prefix false = lit≤ tt

pub length_encoded : (downgraded : Bool) (name text : List ℕ) → length (rendered (encoded_field downgraded name text)) ≤ 42 + length name + 3 * length text
unfolding encoded_field
length_encoded downgraded name text =
    let label = prefix downgraded ++ (name ++ (58 ∷ [])) in
    omega (arith, length_labelled label text, length-append (prefix downgraded) (name ++ (58 ∷ [])), length-append name (58 ∷ []), length_prefix downgraded)

pub length_named : (name : List ℕ) (segments : List Segment) → length (rendered (named name segments)) ≡ 3 + length name + length (rendered segments)
unfolding named rendered
length_named name segments =
    rw (length-append, rendered_append segments (raw (13 ∷ 10 ∷ []) ∷ []), length-append (rendered segments)) (omega (arith, length-append name (58 ∷ [])))

-- ---- soundness

pub labelled_sound : (label text : List ℕ) → T (all is_ascii label) → T (utf8 text) → T (all sound (labelled_field label text))
unfolding labelled_field
labelled_sound label text a u = yes_and (sound (Segment.labelled label text)) true (yes_and (all is_ascii label) (utf8 text) a u) tt

prefix_ascii : (downgraded : Bool) → T (all is_ascii (prefix downgraded))
unfolding prefix bytes
prefix_ascii true = tt
prefix_ascii false = tt

pub encoded_sound : (downgraded : Bool) (name text : List ℕ) → T (all is_ascii name) → T (utf8 text) → T (all sound (encoded_field downgraded name text))
unfolding encoded_field
encoded_sound downgraded name text a u =
    labelled_sound (prefix downgraded ++ (name ++ (58 ∷ []))) text
    (all_append is_ascii (prefix downgraded) (name ++ (58 ∷ [])) (prefix_ascii downgraded) (all_append is_ascii name (58 ∷ []) a tt))
    u

pub named_sound : (name : List ℕ) (segments : List Segment) → T (all is_ascii name) → T (all sound segments) → T (all sound (named name segments))
unfolding named
named_sound name segments a h =
    yes_and (all is_ascii (name ++ (58 ∷ []))) (all sound (segments ++ (raw (13 ∷ 10 ∷ []) ∷ []))) (all_append is_ascii name (58 ∷ []) a tt)
    (all_append sound segments (raw (13 ∷ 10 ∷ []) ∷ []) h tt)

-- ---- the writing, part by part

module _ {before : List ℕ} (h : length before ≤ greatest) where
  -- the encoded words of a text and CRLF, after its label
  pub labelled_added : (label text : List ℕ) {mid after : List ℕ} {at n r : ℕ} → AppendedCapped label at before mid n
      → AppendedCapped (row_after (length label) text ++ (13 ∷ 10 ∷ [])) n mid after r → AppendedCapped (rendered (labelled_field label text)) at before after r
  unfolding labelled_field rendered
  labelled_added label text a b = capped_same (regroup label (row_after (length label) text)) (capped_then a b h)
    where
      regroup : (a b : List ℕ) → a ++ (b ++ (13 ∷ 10 ∷ [])) ≡ (a ++ b) ++ (13 ∷ 10 ∷ [])
      regroup a b = rw append_assoc

  pub label_added : (downgraded : Bool) (name : List ℕ) {first mid after : List ℕ} {at n m r : ℕ} → AppendedCapped (prefix downgraded) at before first n
      → AppendedCapped name n first mid m → AppendedCapped (58 ∷ []) m mid after r
      → AppendedCapped (prefix downgraded ++ (name ++ (58 ∷ []))) at before after r
  label_added downgraded name a b c = capped_then a (capped_then b c (omega (arith, h, length_added a))) h

-- the length of a label, that of its name counted to 63
column_label : (downgraded : Bool) (name text : List ℕ) {column : ℕ} → column ≡ length (prefix downgraded) + (min (length name) 63 + 1)
    → row_after column text ≡ row_after (length (prefix downgraded ++ (name ++ (58 ∷ [])))) text
column_label downgraded name text {column} e =
    let whole = length-append (prefix downgraded) (name ++ (58 ∷ [])) in
    let part = length-append name (58 ∷ []) in
    let label = prefix downgraded ++ (name ++ (58 ∷ [])) in
    by_test (leb (length name) 63)
    (λ t. let same : column ≡ length label = omega (arith, e, whole, part, leb_yes {a = length name} {b = 63} t) in ap (λ (n : ℕ). row_after n text) same)
    (λ t. let long : 63 < length name = leb_no t in row_after_none column text (omega (arith, e)) ∙ sym (row_after_none (length label) text (omega (arith, whole, part))))

-- what is written after a label of so many characters
pub column_counted : (downgraded : Bool) (name text : List ℕ) {column at r : ℕ} {before after : List ℕ} → AppendedCapped (row_after column text ++ (13 ∷ 10 ∷ [])) at before after r
    → column ≡ length (prefix downgraded) + (min (length name) 63 + 1)
    → AppendedCapped (row_after (length (prefix downgraded ++ (name ++ (58 ∷ [])))) text ++ (13 ∷ 10 ∷ [])) at before after r
column_counted downgraded name text a e = capped_same (ap (λ (row : List ℕ). row ++ (13 ∷ 10 ∷ [])) (column_label downgraded name text e)) a

pub encoded_added : (downgraded : Bool) (name text : List ℕ) {before after : List ℕ} {at r : ℕ}
    → AppendedCapped (rendered (labelled_field (prefix downgraded ++ (name ++ (58 ∷ []))) text)) at before after r
    → AppendedCapped (rendered (encoded_field downgraded name text)) at before after r
unfolding encoded_field
encoded_added downgraded name text a = a

module _ (name : List ℕ) (segments : List Segment) where
  pub named_bytes : rendered (named name segments) ≡ (name ++ (58 ∷ [])) ++ (rendered segments ++ (13 ∷ 10 ∷ []))
  unfolding named rendered
  named_bytes = rw (rendered_append segments)

  pub named_added : {before labelled marked valued after : List ℕ} {at n c v r : ℕ} → length before ≤ greatest
      → AppendedCapped name at before labelled n → AppendedCapped (58 ∷ []) n labelled marked c → AppendedCapped (rendered segments) c marked valued v
      → AppendedCapped (13 ∷ 10 ∷ []) v valued after r → AppendedCapped (rendered (named name segments)) at before after r
  named_added k a b d f =
      let label = capped_then a b k in
      let rest = capped_then d f (omega (arith, k, length_added a, length_added b)) in
      capped_same (sym named_bytes) (capped_then label rest k)
