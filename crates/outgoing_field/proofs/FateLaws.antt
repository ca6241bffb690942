-- Laws of what becomes of a field: as code writes it, and as it looks for held fields.
use Rattle.std.specs.Prelude.{◌≡◌, Bool, not, ℕ, ◌+◌, ◌-◌, ◌*◌, ◌≤◌, ◌<◌, T, leb, drop}
use Rattle.std.proofs.Math.Path.{refl, sym}
use Rattle.std.proofs.Common.{ap, ◌∙◌, length-append, length-take, length-drop, drop_of_length-le, le-leb}
use Rattle.std.proofs.lemmas.Bool.{lt-leb}
use Rattle.std.proofs.Math.Bool.{true, false, cond}
use mathlib.Core.List.{List, [], ◌∷◌, ◌++◌, append-nil, append_assoc, map}
use native.Mathlib.Omega.{arith}
use Rattle.std.proofs.Math.ListN.{length, take}
use Rattle.std.proofs.Math.Seq.{length-take-le, take-length}
use Rattle.std.proofs.Math.Facts.{and_yes, leb_yes}
use Rattle.std.proofs.lemmas.Bool.{not-false}
use Rattle.lists.specs.Byte.{is_ascii}
use Rattle.lists.specs.ListsLaws.{by_test, cond_has, yes_true, true_yes, no_false}
use Rattle.lists.specs.Lists.{all, joined}
use Rattle.buffer.specs.Buffer.{Wrote, AppendedCapped, ReachedCapped, greatest}
use Rattle.buffer.specs.BufferLaws.{length_wrote, capped_none, capped_start, length_capped, capped_turn, capped_end}
use Rattle.row.specs.Row.{bounded}
use Rattle.row.proofs.RowLaws.{bounded_short}
use Rattle.encoded_word.specs.Segments.{Segment, rendered}
use Rattle.encoded_word.specs.Segments.Segment.{raw}
use Rattle.encoded_word.specs.SegmentsLaws.{rendered_append}
use Rattle.rules.specs.declared.Rules.{Rules}
use Rattle.header_line.specs.Lines.{name_len}
use Rattle.header.specs.Fields.{field_len, fields_of, name_of, value_of, text_of, line_count}
use Rattle.header.specs.FieldLaws.{field_le, fields_nil, fields_next, name_part, length_value}
use Rattle.header.specs.AsciiFieldsLaws.{AsciiFields, value_ascii}
use Rattle.field_text.specs.TextPlace.{text_place, in_place}
use Rattle.field_text.specs.TextLaws.{wrote_front, length_text, text_there}
use Rattle.header_name.specs.Names.{kind_of}
use Rattle.header_name.specs.declared.Kind.{Kind}
use Rattle.field_method.specs.declared.Method.{Method}
use Rattle.field_method.specs.declared.Method.TheVariants.{Pieces, PlainText, Encapsulated, Received, CommentsOrHeld, CommentsOrEncapsulated, Parameters, Held}
use Rattle.field_method.specs.FieldMethod.{method_of}
use Rattle.field.specs.Field.{encoded_field}
use Rattle.piece.specs.Piece.{fitting}
use Rattle.piece.proofs.PieceLaws.{fitting_short}
use Rattle.address_pieces.specs.AddressField.{address_field}
use Rattle.structured_field.specs.StructuredField.{ascii_outside_comments, structured_field}
use Rattle.received.specs.Received.{received_field, passes as received_passes}
use Rattle.parameterized_field.specs.Value.{parameterized_field, passes as parameters_pass}
use Rattle.outgoing_field.specs.Fate.{Fate, comments_or_encapsulated, holds, method_written, method_fate, fate_of, segments_of, field_segments, header_segments, field_written, header_written, limited, is_held, held_from, held_of}
use Rattle.outgoing_field.specs.Fate.Fate.{held, written}
use Rattle.outgoing_field.specs.Fate.FirstHeld.{Absent, At}
use Rattle.outgoing_field.specs.FateLaws.{CommentsGiven, Roomy, Served, needs_scratch}

-- ---- a field whose value is ASCII

module _ (rules : Rules) (field : List ℕ) where
  fate_ascii : all is_ascii (value_of field) ≡ true → fate_of rules field ≡ written (raw field ∷ [])
  unfolding fate_of
  fate_ascii e = rw e

  -- "A field whose value is ASCII is copied", byte for byte
  pub field_copied : T (all is_ascii (value_of field)) → rendered (field_segments rules field) ≡ field
  unfolding field_segments segments_of rendered
  field_copied t = rw (fate_ascii (yes_true (all is_ascii (value_of field)) t)) (append-nil field)

  written_copied : all is_ascii (value_of field) ≡ true → rendered (field_written rules field) ≡ field
  unfolding field_written rendered
  written_copied e = rw e (append-nil field)

  pub ascii_not_held : all is_ascii (value_of field) ≡ true → false ≡ is_held (fate_of rules field)
  unfolding is_held
  ascii_not_held e = rw (fate_ascii e)

  -- a field whose value is not ASCII goes by the method for its name
  fate_method : (n : ℕ) {kind : Kind} {method : Method} → all is_ascii (value_of field) ≡ false → n ≡ name_len field → kind ≡ kind_of (take n field) → method ≡ method_of rules kind
      → method_fate rules method field ≡ fate_of rules field
  unfolding fate_of
  fate_method n e k q m = rw (e, m, q, name_part field n k)

-- ---- held fields

held_if : (b : Bool) (segments : List Segment) → b ≡ is_held (cond b held (written segments))
unfolding is_held
held_if true segments = refl
held_if false segments = refl

holds_is : (rules : Rules) (method : Method) (field : List ℕ) → holds method field ≡ is_held (method_fate rules method field)
unfolding method_fate
holds_is rules method field = held_if (holds method field) (method_written rules method field)

pub held_by_method : (rules : Rules) (field : List ℕ) (n : ℕ) {kind : Kind} {method : Method} {r : Bool} → all is_ascii (value_of field) ≡ false → n ≡ name_len field → kind ≡ kind_of (take n field)
    → method ≡ method_of rules kind → r ≡ holds method field → r ≡ is_held (fate_of rules field)
held_by_method rules field n {method = method} e k q m h = h ∙ holds_is rules method field ∙ ap is_held (fate_method rules field n e k q m)

pub holds_commented : (method : Method) (field : List ℕ) {value : List ℕ} {clear : Bool} → method ≡ CommentsOrHeld → value ≡ value_of field → clear ≡ ascii_outside_comments value
    → not clear ≡ holds method field
unfolding holds
holds_commented method field e v q = rw (e, q, v)

pub holds_received : (method : Method) (field : List ℕ) {value : List ℕ} {n : ℕ} {clear : Bool} → method ≡ Received → value ≡ value_of field → n ≡ name_len field → clear ≡ received_passes (take n field) value
    → not clear ≡ holds method field
unfolding holds
holds_received method field {n = n} e v k q = rw (e, q, v, name_part field n k)

pub holds_parameters : (method : Method) (field : List ℕ) {value : List ℕ} {clear : Bool} → method ≡ Parameters → length field ≤ 32768 → value ≡ value_of field
    → clear ≡ parameters_pass (fitting 65536 value) → not clear ≡ holds method field
unfolding holds
holds_parameters method field {value} e k v q =
    let short : length value ≤ 32768 = rw v (omega (arith, length_value field)) in
    rw (e, q, fitting_short 65536 value short (omega (arith, short)), v)

-- what is left to look through from a place on
pub record HeldLeft (rules : Rules) (h : List ℕ) (at : ℕ) : Type 0 where
  pub same : held_of rules h ≡ held_from rules h at (fields_of (drop at h))

pub held_all : (rules : Rules) (h : List ℕ) → HeldLeft rules h 0
unfolding held_of
held_all rules h = record { same = refl }

pub held_end : {rules : Rules} {h : List ℕ} {at : ℕ} → HeldLeft rules h at → length h ≤ at → Absent ≡ held_of rules h
unfolding held_from
held_end {rules} {h} {at} l k = sym (l.same ∙ rw (drop_of_length-le h {i = at} k, fields_nil))

module _ {rules : Rules} {h : List ℕ} {at to : ℕ} (l : HeldLeft rules h at) (k : at < length h) (e : to ≡ at + field_len (drop at h)) where
  pub held_here : is_held (fate_of rules (take (to - at) (drop at h))) ≡ true → (n : ℕ) → n ≡ line_count (take (at - 0) h) → At n at ≡ held_of rules h
  unfolding held_from
  held_here r n c = let m : at - 0 ≡ at = omega arith in sym (l.same ∙ rw (fields_next h at to k e, r, c, m))

  pub held_next : is_held (fate_of rules (take (to - at) (drop at h))) ≡ false → HeldLeft rules h to
  unfolding held_from
  held_next r =
      let size : length (take (to - at) (drop at h)) ≡ to - at = length-take-le (to - at) (drop at h) (omega (arith, field_le (drop at h))) in
      let there : at + (to - at) ≡ to = omega arith in
      record { same = l.same ∙ rw (fields_next h at to k e, r, size, there) }

held_past : (rules : Rules) (h : List ℕ) (at : ℕ) (passed more : List (List ℕ)) → T (all (all is_ascii) passed)
    → held_from rules h at (passed ++ more) ≡ held_from rules h (at + length (joined passed)) more
unfolding held_from
held_past rules h at [] more t = let e : at + 0 ≡ at = omega arith in rw e
held_past rules h at (field ∷ passed) more t =
    let both = and_yes (all is_ascii field) (all (all is_ascii) passed) t in
    let free : is_held (fate_of rules field) ≡ false = sym (ascii_not_held rules field (yes_true (all is_ascii (value_of field)) (value_ascii field both.0))) in
    let e : at + length field + length (joined passed) ≡ at + (length field + length (joined passed)) = omega arith in
    rw (free, held_past rules h (at + length field) passed more both.1, length-append field (joined passed), e)

-- no field that is wholly ASCII is held
pub held_skip : {rules : Rules} {h : List ℕ} {at r : ℕ} → HeldLeft rules h at → at ≤ length h → AsciiFields h at r → HeldLeft rules h r
held_skip {rules} {h} {at} {r} l k g =
    let size : at + length (joined g.passed) ≡ r = rw (g.bytes, length-take, length-drop) (omega (arith, g.up, g.inside k)) in
    record { same = l.same ∙ rw (g.fields, held_past rules h at g.passed (fields_of (drop r h)) g.ascii, size) }

length_served : {method : Method} {field text scratch : List ℕ} → Served method field text scratch → length text ≤ length field
length_served {field = field} s = rw s.is (length_text field)

module _ (rules : Rules) {method : Method} {field text scratch : List ℕ} {n : ℕ} (s : Served method field text scratch) (k : n ≡ name_len field) where
  pub method_address : {before after : List ℕ} {at r : ℕ} → method ≡ Pieces → AppendedCapped (rendered (address_field rules (take n field) (fitting (length scratch) text))) at before after r
      → AppendedCapped (rendered (method_written rules method field)) at before after r
  unfolding method_written needs_scratch
  method_address e a =
      let room : 2 * length field ≤ length scratch = s.room (rw e) in
      let given : fitting (length scratch) text ≡ text = fitting_short (length scratch) text (omega (arith, length_served s, s.short)) (omega (arith, length_served s)) in
      rw e (rw (given, s.is, name_part field n k) at a)

  pub method_encoded : {before after : List ℕ} {at r : ℕ} (downgraded : Bool) → method_written rules method field ≡ encoded_field downgraded (name_of field) (text_of field)
      → AppendedCapped (rendered (encoded_field downgraded (take n field) (bounded text))) at before after r
      → AppendedCapped (rendered (method_written rules method field)) at before after r
  method_encoded downgraded e a = rw e (rw (bounded_short text (omega (arith, length_served s, s.short)), s.is, name_part field n k) at a)

  -- a field that is made of its value, with the scratch that its method needs
  pub method_made : (made : List ℕ → List ℕ → List Segment) {value before after : List ℕ} {at r : ℕ} → needs_scratch method ≡ true → method_written rules method field ≡ made (name_of field) (value_of field)
      → value ≡ value_of field → AppendedCapped (rendered (made (take n field) (fitting (length scratch) value))) at before after r
      → AppendedCapped (rendered (method_written rules method field)) at before after r
  method_made made {value} t e v a =
      let short : length value ≤ length field = rw v (length_value field) in
      let given : fitting (length scratch) value ≡ value = fitting_short (length scratch) value (omega (arith, s.short)) (omega (arith, s.room t)) in
      rw e (rw (given, v, name_part field n k) at a)

  -- comments, or else the text encapsulated
  pub method_comments : {value before after : List ℕ} {at r : ℕ} → method ≡ CommentsOrEncapsulated → value ≡ value_of field
      → AppendedCapped (rendered (comments_or_encapsulated (take n field) value text)) at before after r → AppendedCapped (rendered (method_written rules method field)) at before after r
  unfolding method_written
  method_comments e v a = rw e (rw (v, s.is, name_part field n k) at a)

pub comments_given : {method : Method} {field text scratch value : List ℕ} → Served method field text scratch → method ≡ CommentsOrEncapsulated → value ≡ value_of field
    → CommentsGiven value text scratch
unfolding needs_scratch
comments_given {field = field} {scratch = scratch} s e v =
    let room : 2 * length field ≤ length scratch = s.room (rw e) in
    record { room = rw v (omega (arith, length_value field)); short_value = rw v (omega (arith, length_value field, s.short)); short_text = omega (arith, length_served s, s.short) }

module _ (name : List ℕ) {value text scratch : List ℕ} (g : CommentsGiven value text scratch) {before after : List ℕ} {at r : ℕ} where
  pub comments_encoded : ascii_outside_comments value ≡ true → AppendedCapped (rendered (structured_field name (fitting (length scratch) value))) at before after r
      → AppendedCapped (rendered (comments_or_encapsulated name value text)) at before after r
  unfolding comments_or_encapsulated
  comments_encoded e a = rw e (rw (fitting_short (length scratch) value g.short_value g.room) at a)

  pub comments_encapsulated : ascii_outside_comments value ≡ false → AppendedCapped (rendered (encoded_field true name (bounded text))) at before after r
      → AppendedCapped (rendered (comments_or_encapsulated name value text)) at before after r
  unfolding comments_or_encapsulated
  comments_encapsulated e a = rw e (rw (bounded_short text (omega (arith, g.short_text))) at a)

module _ (rules : Rules) (method : Method) (field : List ℕ) where
  pub plain_is : method ≡ PlainText → method_written rules method field ≡ encoded_field false (name_of field) (text_of field)
  unfolding method_written
  plain_is e = rw e

  pub encapsulated_is : method ≡ Encapsulated → method_written rules method field ≡ encoded_field true (name_of field) (text_of field)
  unfolding method_written
  encapsulated_is e = rw e

  pub commented_is : method ≡ CommentsOrHeld → method_written rules method field ≡ structured_field (name_of field) (value_of field)
  unfolding method_written
  commented_is e = rw e

  pub received_is : method ≡ Received → method_written rules method field ≡ received_field (name_of field) (value_of field)
  unfolding method_written
  received_is e = rw e

  pub parameters_is : method ≡ Parameters → method_written rules method field ≡ parameterized_field (name_of field) (value_of field)
  unfolding method_written
  parameters_is e = rw e

  pub method_none : (before : List ℕ) (at : ℕ) → method ≡ Held → at ≤ greatest → AppendedCapped (rendered (method_written rules method field)) at before before at
  unfolding method_written rendered
  method_none before at e h = rw e (capped_none at before h)

module _ {field made scratch : List ℕ} (s : Roomy field made scratch) where
  pub served : (method : Method) {text : List ℕ} → text ≡ text_of field → Served method field text scratch
  served method e = record { short = s.short; is = e; room = λ k. s.room }

  -- a text that was made in its buffer
  pub text_made : {after : List ℕ} {n : ℕ} → Wrote (text_of field) made after n → take n after ≡ text_of field
  text_made w = wrote_front w (omega (arith, s.text, length_text field))

  pub made_within : {after : List ℕ} {n : ℕ} → Wrote (text_of field) made after n → n ≤ length after
  made_within w = omega (arith, w.size, length_wrote w, s.text, length_text field)

  pub made_size : {after : List ℕ} {n : ℕ} → Wrote (text_of field) made after n → n ≡ length (take n after)
  made_size {after} {n} w = sym (length-take-le n after (made_within w))

-- a text that stands in the field
pub text_placed : (field : List ℕ) {text : List ℕ} {a b : ℕ} → text_place field ≡ in_place a b → text ≡ take (b - a) (drop a field) → text ≡ text_of field
text_placed field {text} {a} {b} e q = q ∙ text_there field a b e

pub served_placed : (method : Method) (field : List ℕ) {text scratch : List ℕ} → needs_scratch method ≡ false → length field ≤ 32768 → text ≡ text_of field → Served method field text scratch
served_placed method field n h e = record { short = h; is = e; room = λ k. absurd (true_yes false (sym n ∙ k)) }

module _ (rules : Rules) (field : List ℕ) {before after : List ℕ} {at r : ℕ} where
  pub added_copied : all is_ascii (value_of field) ≡ true → AppendedCapped field at before after r → AppendedCapped (rendered (field_written rules field)) at before after r
  added_copied e a = rw (written_copied rules field e) a

  pub added_by_method : (n : ℕ) {kind : Kind} {method : Method} → all is_ascii (value_of field) ≡ false → n ≡ name_len field → kind ≡ kind_of (take n field) → method ≡ method_of rules kind
      → AppendedCapped (rendered (method_written rules method field)) at before after r
      → AppendedCapped (rendered (field_written rules field)) at before after r
  unfolding field_written
  added_by_method n e k q m a = rw e (rw (m, q, name_part field n k) at a)

pub limited_within : (s : List ℕ) → length (limited s) ≤ 32768
unfolding limited
limited_within s = cond_has (λ (t : List ℕ). length t ≤ 32768) (leb (length s) 32768) s [] (λ t. leb_yes t) (λ t. omega arith)

pub limited_over : (s : List ℕ) → 32768 < length s → take 0 s ≡ limited s
unfolding limited
limited_over s h = rw (lt-leb (length s) 32768 h) refl

pub limited_short : (s : List ℕ) → length s ≤ 32768 → limited s ≡ s
unfolding limited
limited_short s h = rw (le-leb (length s) 32768 h)

-- ---- where nothing is held

by_tests : (a b : Bool) (x y : List Segment) → is_held (cond a (written x) (cond b held (written y))) ≡ false
    → segments_of (cond a (written x) (cond b held (written y))) ≡ cond a x y
unfolding is_held segments_of
by_tests true b x y e = refl
by_tests false true x y e = absurd (true_yes false (sym e))
by_tests false false x y e = refl

unheld_field : (rules : Rules) (field : List ℕ) → is_held (fate_of rules field) ≡ false → field_segments rules field ≡ field_written rules field
unfolding field_segments field_written fate_of method_fate
unheld_field rules field e =
    let method = method_of rules (kind_of (name_of field)) in
    by_tests (all is_ascii (value_of field)) (holds method field) (raw field ∷ []) (method_written rules method field) e

pub found_none : {line at : ℕ} → At line at ≡ Absent → ⊥
found_none e = let z : ◌≡◌ {A = ℕ} 0 1 = cc in omega arith

unheld_fields : (rules : Rules) (h : List ℕ) (at : ℕ) (fields : List (List ℕ)) → held_from rules h at fields ≡ Absent
    → joined (map (field_segments rules) fields) ≡ joined (map (field_written rules) fields)
unfolding held_from
unheld_fields rules h at [] e = refl
unheld_fields rules h at (field ∷ fields) e =
    let here = is_held (fate_of rules field) in
    by_test here
    (λ t. absurd (found_none (rw (yes_true here t) at e)))
    (λ t. rw (unheld_field rules field (no_false here t), unheld_fields rules h (at + length field) fields (rw (no_false here t) at e)))

-- what code writes for a header none of whose fields is held
pub unheld_header : (rules : Rules) (h : List ℕ) → held_of rules h ≡ Absent → header_segments rules h ≡ header_written rules h
unfolding header_segments header_written held_of
unheld_header rules h e = unheld_fields rules h 0 (fields_of h) e

-- ---- field after field

header_next : (rules : Rules) (h : List ℕ) (i to : ℕ) → i < length h → to ≡ i + field_len (drop i h)
    → rendered (header_written rules (drop i h)) ≡ rendered (field_written rules (take (to - i) (drop i h))) ++ rendered (header_written rules (drop to h))
unfolding header_written
header_next rules h i to k e =
    rw (fields_next h i to k e)
    (rendered_append (field_written rules (take (to - i) (drop i h))) (joined (map (field_written rules) (fields_of (drop to h)))))

rendered_passed : (rules : Rules) (passed more : List (List ℕ)) → T (all (all is_ascii) passed)
    → rendered (joined (map (field_written rules) (passed ++ more))) ≡ joined passed ++ rendered (joined (map (field_written rules) more))
rendered_passed rules [] more t = refl
rendered_passed rules (field ∷ passed) more t =
    let both = and_yes (all is_ascii field) (all (all is_ascii) passed) t in
    let rest = joined (map (field_written rules) (passed ++ more)) in
    rendered_append (field_written rules field) rest
    ∙ rw (written_copied rules field (yes_true (all is_ascii (value_of field)) (value_ascii field both.0)), rendered_passed rules passed more both.1)
    (sym (append_assoc field (joined passed) (rendered (joined (map (field_written rules) more)))))

header_passed : (rules : Rules) (h : List ℕ) (i r : ℕ) → AsciiFields h i r
    → rendered (header_written rules (drop i h)) ≡ take (r - i) (drop i h) ++ rendered (header_written rules (drop r h))
unfolding header_written
header_passed rules h i r p = rw (p.fields, ← p.bytes) (rendered_passed rules p.passed (fields_of (drop r h)) p.ascii)

-- where a loop that writes the fields of a header stands
pub record Fielding (rules : Rules) (h : List ℕ) (i at : ℕ) (before after : List ℕ) (n : ℕ) : Type 0 where
  pub reached : ReachedCapped (rendered (header_written rules h)) (rendered (header_written rules (drop i h))) at before after n

pub fielding_start : (rules : Rules) (h : List ℕ) (at : ℕ) (before : List ℕ) → at ≤ greatest → Fielding rules h 0 at before before at
fielding_start rules h at before k = record { reached = capped_start (rendered (header_written rules h)) at before k }

module _ {rules : Rules} {h before mid : List ℕ} {i at n : ℕ} (g : Fielding rules h i at before mid n) where
  pub fielding_end : length h ≤ i → AppendedCapped (rendered (header_written rules h)) at before mid n
  unfolding header_written rendered
  fielding_end k = capped_end g.reached (rw (drop_of_length-le h {i = i} k, fields_nil))

  pub length_fielding : length mid ≡ length before
  length_fielding = length_capped g.reached

  pub fielding_next : {after : List ℕ} {to m : ℕ} → length before ≤ greatest → i < length h → to ≡ i + field_len (drop i h)
      → AppendedCapped (rendered (field_written rules (take (to - i) (drop i h)))) n mid after m → Fielding rules h to at before after m
  fielding_next {after} {to} {m} room k e a = record { reached = capped_turn g.reached (header_next rules h i to k e) a room }

  -- fields that are wholly ASCII are copied together
  pub fielding_skip : {after : List ℕ} {r m : ℕ} → length before ≤ greatest → AsciiFields h i r
      → AppendedCapped (take (r - i) (drop i h)) n mid after m → Fielding rules h r at before after m
  fielding_skip {after} {r} {m} room p a = record { reached = capped_turn g.reached (header_passed rules h i r p) a room }
