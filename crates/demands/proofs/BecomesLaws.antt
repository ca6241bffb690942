-- What becomes of a header's fields, by relations, is what is written for them and what is held.
use Rattle.std.specs.Prelude.{◌≡◌, Bool, false, not, cond, ◌&&◌, ℕ, suc, ◌+◌, T, take}
use Rattle.std.proofs.Math.Path.{refl, ap}
use Rattle.std.proofs.Common.{sym, ◌∙◌, add-zero, zero-add, arith, length-append, take_at}
use Rattle.std.proofs.Math.Bool.{true}
use mathlib.Core.List.{List, [], ◌∷◌, ◌++◌, append-nil, map}
use Rattle.std.proofs.Math.Dec.{T_not}
use Rattle.std.proofs.Math.Facts.{and_yes, yes_and}
use Rattle.std.proofs.Math.ListN.{length, drop}
use Rattle.std.proofs.Math.Seq.{drop_at}
use Rattle.lists.specs.Byte.{is_ascii}
use Rattle.lists.specs.Lists.{all, joined}
use Rattle.lists.specs.ListsLaws.{by_test, cond_has, yes_true, no_false, joined_append}
use Rattle.lists.specs.Run.{run}
use Rattle.rules.specs.declared.Rules.{Rules}
use Rattle.encoded_word.specs.Segments.{Segment, rendered}
use Rattle.encoded_word.specs.Segments.Segment.{raw}
use Rattle.header.specs.Fields.{fields_of, name_of, value_of, text_of, line_count}
use Rattle.header.specs.FieldLaws.{fields_joined}
use Rattle.header.specs.AsciiFieldsLaws.{value_ascii}
use Rattle.field_method.specs.declared.Method.{Method}
use Rattle.field_method.specs.declared.Method.TheVariants.{Pieces, PlainText, Encapsulated, Received, CommentsOrHeld, CommentsOrEncapsulated, Parameters, Held as HeldMethod}
use Rattle.field_method.specs.FieldMethod.{method_of}
use Rattle.header_name.specs.Names.{kind_of}
use Rattle.field.specs.Field.{encoded_field}
use Rattle.address_grammar.proofs.AddressFieldLaws.{field_made, field_only}
use Rattle.structured_field.specs.StructuredField.{ascii_outside_comments, value_segments, structured_field}
use Rattle.structured_field.proofs.GrammarLaws.{made_reads as structured_reads, reads_made as reads_structured}
use Rattle.received.specs.Received.{value_clear, lines_fit, passes, received_field}
use Rattle.received.proofs.FitLaws.{lines_fit_lem, fit_lines}
use Rattle.received.proofs.GrammarLaws.{made_reads as received_reads, reads_made as reads_received}
use Rattle.parameterized_field.specs.Value.{segments_from, parameterized_field, passes as parameters_pass}
use Rattle.parameterized_field.specs.GrammarLaws.{passes_made, made_passes}
use Rattle.outgoing_field.specs.Fate.{Fate, comments_or_encapsulated, holds, method_written, method_fate, fate_of, segments_of, field_segments, header_segments, is_held, held_from, held_of}
use Rattle.outgoing_field.specs.Fate.Fate.{held, written}
use Rattle.outgoing_field.specs.Fate.{FirstHeld}
use Rattle.outgoing_field.specs.Fate.FirstHeld.{Absent, At}
use Rattle.offset.specs.Offset.{field_offset}
use Rattle.demands.specs.Downgraded.{MethodBecomes, Becomes, FieldsBecome}
use Rattle.demands.specs.HeaderGiven.{HeldHeader}

-- a field is held that becomes nothing
abbrev Held : Rules → List ℕ → Type 0
Held rules field = (new : List Segment) → Becomes rules field new → ⊥

-- ---- a field

-- what holds of either, by a test that is denied
if_not : {X : Type 0} (P : X → Type 0) (b : Bool) (x y : X) → (T b → P y) → (T (not b) → P x) → P (cond (not b) x y)
if_not P true x y f g = f tt
if_not P false x y f g = g tt

-- a fate, by what is written for it
data Fated (Written : List Segment → Type 0) : Fate → Type 0 where
  nothing : Fated Written held
  something : {segments : List Segment} → Written segments → Fated Written (written segments)

fated_written : {Written : List Segment → Type 0} {segments : List Segment} → Fated Written (written segments) → Written segments
fated_written (Fated.something w) = w

module _ (rules : Rules) (field : List ℕ) where
  method_fated : (method : Method) → Fated (MethodBecomes rules field method) (method_fate rules method field)
  unfolding method_fate holds method_written comments_or_encapsulated structured_field received_field parameterized_field segments_from passes
  method_fated Pieces = Fated.something (MethodBecomes.pieces (field_made rules (name_of field) (text_of field)))
  method_fated PlainText = Fated.something MethodBecomes.plain_text
  method_fated Encapsulated = Fated.something MethodBecomes.encapsulated
  method_fated Received =
      if_not (Fated (MethodBecomes rules field Received)) (passes (name_of field) (value_of field)) held (written (received_field (name_of field) (value_of field)))
      (λ t. let b = and_yes (value_clear (value_of field)) (lines_fit (rendered (received_field (name_of field) (value_of field)))) t in
      Fated.something (MethodBecomes.received (reads_received (record { clear_all_lem = b.0; is = refl })) (lines_fit_lem (rendered (received_field (name_of field) (value_of field))) b.1)))
      (λ t. Fated.nothing)
  method_fated CommentsOrHeld =
      if_not (Fated (MethodBecomes rules field CommentsOrHeld)) (ascii_outside_comments (value_of field)) held (written (structured_field (name_of field) (value_of field)))
      (λ t. Fated.something (MethodBecomes.comments (reads_structured (record { ascii = t; is = refl }))))
      (λ t. Fated.nothing)
  method_fated CommentsOrEncapsulated =
      Fated.something
      (cond_has (MethodBecomes rules field CommentsOrEncapsulated) (ascii_outside_comments (value_of field)) (structured_field (name_of field) (value_of field)) (encoded_field true (name_of field) (text_of field))
      (λ t. MethodBecomes.comments_alone (reads_structured (record { ascii = t; is = refl })))
      (λ t. MethodBecomes.outside_comments (λ segments v. T_not (ascii_outside_comments (value_of field)) t (structured_reads v).ascii)))
  method_fated Parameters =
      if_not (Fated (MethodBecomes rules field Parameters)) (parameters_pass (value_of field)) held (written (parameterized_field (name_of field) (value_of field)))
      (λ t. let b = passes_made (value_of field) t in Fated.something (MethodBecomes.parameters b.0 b.1))
      (λ t. Fated.nothing)
  method_fated HeldMethod = Fated.nothing

  by_method : {fate : Fate} → T (not (all is_ascii (value_of field))) → Fated (MethodBecomes rules field (method_of rules (kind_of (name_of field)))) fate → Fated (Becomes rules field) fate
  by_method t (Fated.nothing) = Fated.nothing
  by_method t (Fated.something k) = Fated.something (Becomes.rewritten t k)

  fated : Fated (Becomes rules field) (fate_of rules field)
  unfolding fate_of
  fated =
      let method = method_of rules (kind_of (name_of field)) in
      cond_has (Fated (Becomes rules field)) (all is_ascii (value_of field)) (written (raw field ∷ [])) (method_fate rules method field)
      (λ t. Fated.something (Becomes.copied t)) (λ t. by_method t (method_fated method))

  pub becomes : {segments : List Segment} → fate_of rules field ≡ written segments → Becomes rules field segments
  becomes e = fated_written (rw e at fated)

  method_exact : {method : Method} {segments : List Segment} → MethodBecomes rules field method segments → method_fate rules method field ≡ written segments
  unfolding method_fate holds method_written comments_or_encapsulated structured_field received_field parameterized_field segments_from passes
  method_exact (MethodBecomes.pieces a) = ap written (field_only rules (name_of field) (text_of field) a)
  method_exact (MethodBecomes.plain_text) = refl
  method_exact (MethodBecomes.encapsulated) = refl
  method_exact (MethodBecomes.comments v) =
      let r = structured_reads v in
      rw (r.is, yes_true (ascii_outside_comments (value_of field)) r.ascii)
  method_exact (MethodBecomes.comments_alone v) =
      let r = structured_reads v in
      rw (r.is, yes_true (ascii_outside_comments (value_of field)) r.ascii)
  method_exact (MethodBecomes.outside_comments none) =
      by_test (ascii_outside_comments (value_of field))
      (λ t. absurd (none (value_segments (value_of field)) (reads_structured (record { ascii = t; is = refl }))))
      (λ t. rw (no_false (ascii_outside_comments (value_of field)) t))
  method_exact (MethodBecomes.received v fit) =
      let r = received_reads v in
      let short = rw r.is at fit in
      let lines = lines_fit (rendered (received_field (name_of field) (value_of field))) in
      rw (r.is, yes_true (value_clear (value_of field) && lines) (yes_and (value_clear (value_of field)) lines r.clear_all_lem (fit_lines (rendered (received_field (name_of field) (value_of field))) short)))
  method_exact (MethodBecomes.parameters v names) =
      let r = made_passes v names in
      rw (r.1, yes_true (parameters_pass (value_of field)) r.0)

  pub becomes_exact : {segments : List Segment} → Becomes rules field segments → fate_of rules field ≡ written segments
  unfolding fate_of
  becomes_exact (Becomes.copied t) = rw (yes_true (all is_ascii (value_of field)) t)
  becomes_exact (Becomes.rewritten t k) = rw (no_false (all is_ascii (value_of field)) t) (method_exact k)

  -- nothing is written for a field just where its fate is to be held
  is_held_lem : fate_of rules field ≡ held → Held rules field
  is_held_lem e segments b = never (sym e ∙ becomes_exact b)
    where
      never : held ≡ written segments → ⊥
      never z = let n : ◌≡◌ {A = ℕ} 0 1 = cc in omega arith

  held_fate : Held rules field → fate_of rules field ≡ held
  held_fate none = go (fate_of rules field) refl
    where
      go : (fate : Fate) → fate_of rules field ≡ fate → fate_of rules field ≡ held
      go held e = e
      go (written segments) e = absurd (none segments (becomes e))

-- ---- fields, one after another

-- what is found among these fields of a header, the first of which starts at the byte `at`
data Found (rules : Rules) (h : List ℕ) (at : ℕ) (fields : List (List ℕ)) : FirstHeld → Type 0 where
  absent : FieldsBecome rules fields (joined (map (field_segments rules) fields)) → Found rules h at fields Absent
  first : {segments : List Segment} (before : List (List ℕ)) (field : List ℕ) (after : List (List ℕ)) → fields ≡ before ++ (field ∷ after)
      → FieldsBecome rules before segments → fate_of rules field ≡ held
      → Found rules h at fields (At (line_count (take (at + length (joined before)) h)) (at + length (joined before)))

module _ (rules : Rules) (h : List ℕ) where
  found_later : (at : ℕ) (field : List ℕ) {found : FirstHeld} {fields : List (List ℕ)} {segments : List Segment} → fate_of rules field ≡ written segments
      → Found rules h (at + length field) fields found → Found rules h at (field ∷ fields) found
  unfolding field_segments segments_of
  found_later at field e (Found.absent b) = Found.absent (rw e (FieldsBecome.then (becomes rules field e) b))
  found_later at field e (Found.first before other after is b none) =
      let size : at + length field + length (joined before) ≡ at + length (joined (field ∷ before)) = rw (length-append field (joined before)) (omega arith) in
      rw size (Found.first (field ∷ before) other after (ap (λ (l : List (List ℕ)). field ∷ l) is) (FieldsBecome.then (becomes rules field e) b) none)

  found : (at : ℕ) (fields : List (List ℕ)) → Found rules h at fields (held_from rules h at fields)
  unfolding held_from is_held
  found at [] = Found.absent FieldsBecome.none
  found at (field ∷ fields) = go (fate_of rules field) refl (found (at + length field) fields)
    where
      here : fate_of rules field ≡ held → Found rules h at (field ∷ fields) (At (line_count (take at h)) at)
      here e =
          let now : Found rules h at (field ∷ fields) (At (line_count (take (at + 0) h)) (at + 0)) = Found.first [] field fields refl FieldsBecome.none e in
          rw (add-zero at) at now

      go : (fate : Fate) → fate_of rules field ≡ fate → Found rules h (at + length field) fields (held_from rules h (at + length field) fields)
          → Found rules h at (field ∷ fields) (cond (is_held (fate_of rules field)) (At (line_count (take at h)) at) (held_from rules h (at + length field) fields))
      go held e later = rw e (here e)
      go (written segments) e later = rw e (found_later at field e later)

  pub fields_become : held_of rules h ≡ Absent → FieldsBecome rules (fields_of h) (header_segments rules h)
  unfolding held_of header_segments
  fields_become e = whole (rw e at (found 0 (fields_of h)))
    where
      whole : Found rules h 0 (fields_of h) Absent → FieldsBecome rules (fields_of h) (joined (map (field_segments rules) (fields_of h)))
      whole (Found.absent b) = b

  -- fields for which something is written are passed over
  held_past : {before : List (List ℕ)} {segments : List Segment} (at : ℕ) (more : List (List ℕ)) → FieldsBecome rules before segments
      → held_from rules h at (before ++ more) ≡ held_from rules h (at + length (joined before)) more
  unfolding held_from is_held
  held_past at more (FieldsBecome.none) = rw (add-zero at)
  held_past at more (FieldsBecome.then {field} {fields} b bs) =
      let size : at + length field + length (joined fields) ≡ at + length (field ++ joined fields) = rw (length-append field (joined fields)) (omega arith) in
      rw (becomes_exact rules field b, held_past (at + length field) more bs, size)

segments_exact : {rules : Rules} {fields : List (List ℕ)} {segments : List Segment} → FieldsBecome rules fields segments → segments ≡ joined (map (field_segments rules) fields)
unfolding field_segments segments_of
segments_exact (FieldsBecome.none) = refl
segments_exact {rules} (FieldsBecome.then {field} {segments} b bs) = rw (becomes_exact rules field b) (ap (λ (l : List Segment). segments ++ l) (segments_exact bs))

pub fields_exact : {rules : Rules} (h : List ℕ) {segments : List Segment} → FieldsBecome rules (fields_of h) segments
    → (held_of rules h ≡ Absent) × (segments ≡ header_segments rules h)
unfolding held_of held_from header_segments
fields_exact {rules} h b = (rw (append-nil (fields_of h)) at (held_past rules h 0 [] b), segments_exact b)

-- ---- the first held field

-- a byte that fails the test ends a run, whatever follows
run_inside : (f : ℕ → Bool) (a b : List ℕ) → T (not (all f a)) → run f (a ++ b) ≡ run f a
unfolding run
run_inside f [] b t = absurd t
run_inside f (x ∷ a) b t = by_test (f x) (λ u. let e = yes_true (f x) u in rw e (ap suc (run_inside f a b (rw e at t)))) (λ u. rw (no_false (f x) u))

held_not_ascii : (rules : Rules) (field : List ℕ) → Held rules field → T (not (all is_ascii field))
held_not_ascii rules field none = by_test (all is_ascii field) (λ t. absurd (none (raw field ∷ []) (Becomes.copied (value_ascii field t)))) (λ t. t)

module _ (h : List ℕ) (before : List (List ℕ)) (field : List ℕ) (after : List (List ℕ)) (is : fields_of h ≡ before ++ (field ∷ after)) where
  -- the bytes before a field, and the field with what follows it
  parts : h ≡ joined before ++ (field ++ joined after)
  parts = sym (fields_joined h) ∙ ap joined is ∙ joined_append before (field ∷ after)

  line_at : line_count (take (length (joined before)) h) ≡ line_count (joined before)
  line_at = ap line_count (ap (take (length (joined before))) parts ∙ take_at (joined before) (field ++ joined after) (length (joined before)) refl)

  offset_at : (rules : Rules) → Held rules field → field_offset h (length (joined before)) ≡ length (joined before) + run is_ascii field
  unfolding field_offset
  offset_at rules none =
      let n = length (joined before) in
      let rest : drop n h ≡ field ++ joined after = ap (drop n) parts ∙ drop_at (joined before) (field ++ joined after) n refl in
      rw (rest, run_inside is_ascii field (joined after) (held_not_ascii rules field none))

pub held_exact : {rules : Rules} (h : List ℕ) {line offset : ℕ} (x : HeldHeader rules h line offset)
    → (held_of rules h ≡ At line (length (joined x.before))) × (offset ≡ field_offset h (length (joined x.before)))
unfolding held_of held_from is_held
held_exact {rules} h x =
    let before = x.before in
    let field = x.field in
    let after = x.after in
    let n = length (joined before) in
    let found : held_from rules h 0 (fields_of h) ≡ At (line_count (take n h)) n = rw x.is (held_past rules h 0 (field ∷ after) x.become ∙ rw (zero-add n, held_fate rules field x.held)) in
    (found ∙ rw (line_at h before field after x.is, x.line_is), x.offset_is ∙ sym (offset_at h before field after x.is rules x.held))

pub field_held : (rules : Rules) (h : List ℕ) (line at : ℕ) → held_of rules h ≡ At line at → HeldHeader rules h line (field_offset h at)
unfolding held_of
field_held rules h line at e = there (rw e at (found rules h 0 (fields_of h)))
  where
    there : {line at : ℕ} → Found rules h 0 (fields_of h) (At line at) → HeldHeader rules h line (field_offset h at)
    there (Found.first {segments} before field after is b none) =
        let free = is_held_lem rules field none in
        let zero_at = zero-add (length (joined before)) in
        record {
          before = before;
          field = field;
          after = after;
          segments = segments;
          is = is;
          become = b;
          held = free;
          line_is = rw zero_at (line_at h before field after is);
          offset_is = rw zero_at (offset_at h before field after is rules free);
        }
