-- In a header that is made of written fields, calls of the reader from 0 on show each Downgraded field with encoded words as exactly the text that is encoded in it.
use Rattle.std.specs.Prelude.{◌≡◌, refl, Bool, true, false, not, List, [], ◌∷◌, ◌++◌, ℕ, ◌+◌, ◌≤◌, T, eqb, length, drop, get_or}
use Rattle.std.proofs.Common.{sym, append_assoc, append-nil, arith, length-append, length-take, drop_at, ne_eqb}
use Rattle.std.proofs.lemmas.List.{take-append-le}
use Rattle.lists.specs.Lists.{all}
use Rattle.lists.specs.Byte.{within}
use Rattle.lists.specs.ByteLaws.{within_low}
use Rattle.std.proofs.Math.Facts.{and_yes}
use Rattle.buffer.specs.Buffer.{overlay}
use Rattle.line.specs.Line.{blank, crlf}
use Rattle.utf8.specs.Utf8.{utf8}
use Rattle.row.specs.Row.{row_after}
use Rattle.encoded_word.specs.Segments.{Segment, rendered}
use Rattle.encoded_word.specs.Segments.Segment.{raw, words, labelled, parameter}
use Rattle.encoded_word.specs.SegmentsLaws.{rendered_append}
use Rattle.field.specs.Field.{labelled_field}
use Rattle.header_line.specs.Lines.{name_byte}
use Rattle.header.specs.Fields.{fields_of}
use Rattle.downgraded_reader.specs.Reader.{is_downgraded, outcome}
use Rattle.reader_grammar.specs.ReaderGrammar.{LineBegins, FieldBegins, downgraded_count}
use Rattle.reader_grammar.specs.CallLaws.{Reached, found_by, number_is, prefix_size}
use Rattle.downgraded_row.specs.RowLinesLaws.{Label}
use Rattle.downgraded_row.specs.RowFieldLaws.{written, written_outcome}

-- bytes of whole lines: none, or up to a CRLF
pub data Ended : List ℕ → Type 0 where
  nothing : Ended []
  by_crlf : (front : List ℕ) → Ended (front ++ (13 ∷ 10 ∷ []))

ended_then : {a b : List ℕ} → Ended a → Ended b → Ended (a ++ b)
ended_then {a} e Ended.nothing = rw (append-nil a) e
ended_then {a} e (Ended.by_crlf front) = rw (← append_assoc a front (13 ∷ 10 ∷ [])) (Ended.by_crlf (a ++ front))

-- ---- written fields

-- a segment that has no label
abbrev pub unlabelled : Segment → Bool
unlabelled (raw bytes) = true
unlabelled (words text) = true
unlabelled (parameter name text) = true
unlabelled (labelled label text) = false

-- A header of written fields: each is a label with the encoded words of a text, or whole lines that begin with no white space.
pub data WrittenFields : List Segment → Type 0 where
  none : WrittenFields []
  encoded : {label : List ℕ} (text : List ℕ) {more : List Segment} → Label label → T (utf8 text) → WrittenFields more → WrittenFields (labelled_field label text ++ more)
  other : (segments : List Segment) {more : List Segment} (front : List ℕ) → rendered segments ≡ front ++ (13 ∷ 10 ∷ []) → blank (get_or front 0 0) ≡ false → T (all unlabelled segments)
      → WrittenFields more → WrittenFields (segments ++ more)

pub written_then : {a b : List Segment} → WrittenFields a → WrittenFields b → WrittenFields (a ++ b)
written_then WrittenFields.none v = v
written_then {b = b} (WrittenFields.encoded {label} text {more} l u w) v =
    rw (append_assoc (labelled_field label text) more b) (WrittenFields.encoded text l u (written_then w v))
written_then {b = b} (WrittenFields.other segments {more} front e n d w) v = rw (append_assoc segments more b) (WrittenFields.other segments front e n d (written_then w v))

labelled_bytes : (label text : List ℕ) → rendered (labelled_field label text) ≡ written label text
unfolding rendered labelled_field
labelled_bytes label text = append_assoc label (row_after (length label) text) (13 ∷ 10 ∷ [])

written_ended_lem : (label text : List ℕ) → Ended (written label text)
written_ended_lem label text = rw (append_assoc label (row_after (length label) text) (13 ∷ 10 ∷ [])) at (Ended.by_crlf (label ++ row_after (length label) text))

nil_rendered : rendered [] ≡ []
unfolding rendered
nil_rendered = refl

fields_ended : {ss : List Segment} → WrittenFields ss → Ended (rendered ss)
fields_ended WrittenFields.none = rw nil_rendered Ended.nothing
fields_ended (WrittenFields.encoded {label} text {more} l u w) =
    rw (rendered_append (labelled_field label text) more, labelled_bytes label text) (ended_then (written_ended_lem label text) (fields_ended w))
fields_ended (WrittenFields.other segments {more} front e n d w) = rw (rendered_append segments more, e) (ended_then (Ended.by_crlf front) (fields_ended w))

-- a label's first byte
pub name_not_blank : (b : ℕ) → T (name_byte b) → blank b ≡ false
unfolding blank name_byte
name_not_blank b t =
    let h = within_low 33 126 b (and_yes (within 33 126 b) (not (eqb b 58)) t).0 in
    rw (ne_eqb b 32 (λ e. omega (arith, e)), ne_eqb b 9 (λ e. omega (arith, e))) refl

label_fresh : {label : List ℕ} (rest : List ℕ) → Label label → blank (get_or (label ++ rest) 0 0) ≡ false
label_fresh {label} rest l = rw (l.is, append_assoc l.name (58 ∷ []) rest) (front l.name l.some l.bytes)
  where
    front : (name : List ℕ) → 1 ≤ length name → T (all name_byte name) → blank (get_or (name ++ (58 ∷ rest)) 0 0) ≡ false
    front [] k t = absurd (omega arith)
    front (b ∷ name) k t = name_not_blank b (and_yes (name_byte b) (all name_byte name) t).0

nil_fresh : blank 0 ≡ false
unfolding blank
nil_fresh = refl

line_fresh : (front rest : List ℕ) → blank (get_or front 0 0) ≡ false → blank (get_or ((front ++ (13 ∷ 10 ∷ [])) ++ rest) 0 0) ≡ false
unfolding blank
line_fresh [] rest n = refl
line_fresh (b ∷ front) rest n = n

fields_fresh : {ss : List Segment} → WrittenFields ss → blank (get_or (rendered ss) 0 0) ≡ false
fields_fresh WrittenFields.none = rw nil_rendered nil_fresh
fields_fresh (WrittenFields.encoded {label} text {more} l u w) =
    rw (rendered_append (labelled_field label text) more, labelled_bytes label text, append_assoc label (row_after (length label) text ++ (13 ∷ 10 ∷ [])) (rendered more))
    (label_fresh ((row_after (length label) text ++ (13 ∷ 10 ∷ [])) ++ rendered more) l)
fields_fresh (WrittenFields.other segments {more} front e n d w) = rw (rendered_append segments more, e) (line_fresh front (rendered more) n)

-- ---- a label in them

-- what stands before and after a label with the encoded words of a text
record Apart (before : List Segment) (label text : List ℕ) (after : List Segment) : Type 0 where
  pub front : WrittenFields before
  pub label_is : Label label
  pub text_is : T (utf8 text)
  pub back : List Segment
  pub after_is : after ≡ raw (13 ∷ 10 ∷ []) ∷ back
  pub rest : WrittenFields back

none_there : (before : List Segment) (s : Segment) (after : List Segment) → [] ≡ before ++ (s ∷ after) → ⊥
none_there [] s after e = let z : ◌≡◌ {A = ℕ} 0 1 = cc in omega arith
none_there (x ∷ before) s after e = let z : ◌≡◌ {A = ℕ} 0 1 = cc in omega arith

has_label : (s : Segment) {label text : List ℕ} {a b : List Segment} → T (unlabelled s) → s ∷ a ≡ labelled label text ∷ b → ⊥
has_label (raw bytes) t e = let z : ◌≡◌ {A = ℕ} 0 1 = cc in omega arith
has_label (words text) t e = let z : ◌≡◌ {A = ℕ} 0 1 = cc in omega arith
has_label (parameter name text) t e = let z : ◌≡◌ {A = ℕ} 0 1 = cc in omega arith
has_label (labelled label text) t e = t

tails : {x y : Segment} {a b : List Segment} → x ∷ a ≡ y ∷ b → a ≡ b
tails e = cc

both : {x y : Segment} {a b : List Segment} → x ≡ y → b ≡ a → y ∷ b ≡ x ∷ a
both p q = cc

-- it stands after segments that have none
past_other : {label text : List ℕ} (segments more before after : List Segment) → T (all unlabelled segments) → segments ++ more ≡ before ++ (labelled label text ∷ after)
    → (rest : List Segment) × (before ≡ segments ++ rest) × (more ≡ rest ++ (labelled label text ∷ after))
past_other [] more before after t e = (before, refl, e)
past_other (s ∷ segments) more [] after t e = absurd (has_label s (and_yes (unlabelled s) (all unlabelled segments) t).0 e)
past_other (s ∷ segments) more (x ∷ before) after t e =
    let r = past_other segments more before after (and_yes (unlabelled s) (all unlabelled segments) t).1 (tails e) in
    let first : s ≡ x = cc in
    (r.0, both first r.1, r.2)

apart : {ss : List Segment} → WrittenFields ss → (before : List Segment) (label text : List ℕ) (after : List Segment) → ss ≡ before ++ (labelled label text ∷ after) → Apart before label text after
unfolding labelled_field
apart WrittenFields.none before label text after e = absurd (none_there before (labelled label text) after e)
apart (WrittenFields.encoded {label = l} t {more} k u w) [] label text after e =
    let same : l ≡ label = cc in
    let texts : t ≡ text = cc in
    record { front = WrittenFields.none; label_is = rw same at k; text_is = rw texts at u; back = more; after_is = cc; rest = w }
apart (WrittenFields.encoded {label = l} t {more} k u w) (x ∷ []) label text after e = absurd (has_label (raw (13 ∷ 10 ∷ [])) tt (tails e))
apart (WrittenFields.encoded {label = l} t {more} k u w) (x ∷ y ∷ before) label text after e =
    let r = apart w before label text after (tails (tails e)) in
    let first : labelled l t ≡ x = cc in
    let second : raw (13 ∷ 10 ∷ []) ≡ y = cc in
    record { front = rw (← first, ← second) (WrittenFields.encoded t k u r.front); label_is = r.label_is; text_is = r.text_is; back = r.back; after_is = r.after_is; rest = r.rest }
apart (WrittenFields.other segments {more} f b n d w) before label text after e =
    let p = past_other segments more before after d e in
    let r = apart w p.0 label text after p.2 in
    record { front = rw p.1 (WrittenFields.other segments f b n d r.front); label_is = r.label_is; text_is = r.text_is; back = r.back; after_is = r.after_is; rest = r.rest }

-- ---- where it is found

-- a line begins after whole lines
crlf_there : (b : List ℕ) → T (crlf (13 ∷ 10 ∷ b))
unfolding crlf
crlf_there b = tt

begins_after : {a : List ℕ} (b : List ℕ) → Ended a → LineBegins (a ++ b) (length a)
begins_after b Ended.nothing = LineBegins.at_start
begins_after b (Ended.by_crlf front) =
    let s = front ++ (13 ∷ 10 ∷ []) in
    let size : length front + 2 ≡ length s = sym (length-append front (13 ∷ 10 ∷ [])) in
    let there : drop (length front) (s ++ b) ≡ 13 ∷ 10 ∷ b = rw (append_assoc front (13 ∷ 10 ∷ []) b) (drop_at front (13 ∷ 10 ∷ b) (length front) refl) in
    let c : LineBegins (s ++ b) (length front + 2) = LineBegins.after_crlf (length front) (rw there (crlf_there b)) in
    rw size at c

-- a label of a Downgraded field, before more
prefix_past : (label rest : List ℕ) → T (is_downgraded label) → T (is_downgraded (label ++ rest))
unfolding is_downgraded
prefix_past label rest t = let k : 11 ≤ length label = omega (arith, prefix_size label t, length-take 11 label) in rw (take-append-le 11 label rest k) t

-- A label of a Downgraded field among written fields: the call with the number of the Downgraded fields before it finds that field, and given room it shows exactly the text.
pub record Shows (h : List ℕ) (before : List Segment) (text : List ℕ) : Type 0 where
  pub place : ℕ
  pub next : ℕ
  pub reached : Reached h (downgraded_count (fields_of (rendered before))) place
  pub outcome_is : (buffer : List ℕ) → length text ≤ length buffer
      → outcome h place buffer ≡ record { number = 0; start = length (rendered before); next = next; size = length text; buffer = overlay text buffer }

module _ (before back : List Segment) (label text : List ℕ) (bs : WrittenFields before) (l : Label label) (d : T (is_downgraded label)) (u : T (utf8 text)) (ws : WrittenFields back) where
  field_begins : FieldBegins (rendered before ++ (written label text ++ rendered back)) (length (rendered before))
  field_begins = record {
    line = begins_after (written label text ++ rendered back) (fields_ended bs);
    prefix =
        rw (drop_at (rendered before) (written label text ++ rendered back) (length (rendered before)) refl, append_assoc label (row_after (length label) text ++ (13 ∷ 10 ∷ [])) (rendered back))
        (prefix_past label ((row_after (length label) text ++ (13 ∷ 10 ∷ [])) ++ rendered back) d);
  }

  shows_there : Shows (rendered before ++ (written label text ++ rendered back)) before text
  shows_there =
      let f = found_by (rendered before ++ (written label text ++ rendered back)) field_begins in
      record {
        place = f.place;
        next = length (rendered before) + length (written label text);
        reached = rw (number_is (rendered before) (written label text ++ rendered back) field_begins f) at f.reached;
        outcome_is = λ buffer room. written_outcome label text l u (rendered before) (rendered back) (fields_fresh ws) f.place buffer f.finds room;
      }

pub reads_back : {ss : List Segment} → WrittenFields ss → (before : List Segment) (label text : List ℕ) (after : List Segment) → ss ≡ before ++ (labelled label text ∷ after)
    → T (is_downgraded label) → Shows (rendered ss) before text
unfolding labelled_field
reads_back w before label text after e d =
    let a = apart w before label text after e in
    let bytes : rendered (before ++ (labelled_field label text ++ a.back)) ≡ rendered before ++ (written label text ++ rendered a.back) =
    rw (rendered_append before (labelled_field label text ++ a.back), rendered_append (labelled_field label text) a.back, labelled_bytes label text) refl in
    rw (e, a.after_is, bytes) (shows_there before a.back label text a.front a.label_is d a.text_is a.rest)
