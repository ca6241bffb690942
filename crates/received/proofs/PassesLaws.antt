-- The test of a Received field: its lines by columns, and that no line of a short field is long.
use Rattle.std.proofs.Common.{le-leb, sym, ◌∙◌, append-nil, arith}
use Rattle.std.specs.Prelude.{◌≡◌, refl, Bool, true, false, cond, ◌&&◌, List, [], ◌∷◌, ◌++◌, map, ℕ, ◌+◌, ◌-◌, ◌≤◌, ◌<◌, T, eqb, take, drop}
use Rattle.std.proofs.Math.Path.{ap}
use Rattle.std.proofs.Math.Dec.{leb}
use Rattle.std.proofs.Math.ListN.{length, length-append}
use Rattle.std.proofs.Math.Facts.{and_yes, leb_yes}
use Rattle.lists.specs.Byte.{is_ascii}
use Rattle.lists.specs.CutByLaws.{cut_some}
use Rattle.lists.specs.Lists.{all, joined, nonempty}
use Rattle.lists.specs.ListsLaws.{by_test, cond_has, yes_true, true_yes, no_false}
use Rattle.comment.specs.Parts.{part_len, parts}
use Rattle.comment.proofs.PartsLaws.{parts_joined}
use Rattle.encoded_word.specs.Segments.{Segment, rendered}
use Rattle.encoded_word.specs.Segments.Segment.{raw}
use Rattle.encoded_word.specs.SegmentsLaws.{rendered_append}
use Rattle.field.proofs.FieldLaws.{named_bytes}
use Rattle.structured_token.specs.declared.Kind.{Kind}
use Rattle.structured_token.specs.Tokens.{comment_kind}
use Rattle.structured_token.specs.Walk.{Value, becoming}
use Rattle.structured_field.specs.StructuredField.{part_segments}
use Rattle.structured_token.specs.Grammar.{TokenRule}
use Rattle.structured_field.proofs.GrammarLaws.{from_rule}
use Rattle.structured_field.specs.StructuredField as field
use Rattle.received_token.specs.Tokens.{goes_on, Took}
use Rattle.received_token.specs.declared.ReceivedKind.{ReceivedKind}
use Rattle.received.specs.CommentLinesLaws.{part_ascii, part_encoded, comment_bytes}
use Rattle.received.specs.Grammar.{ReceivedRule}
use Rattle.received.proofs.GrammarLaws.{value_made}
use Rattle.received.specs.LinesLaws.{column_append, line_starts}
use Rattle.received.specs.Received.{Place, becomes, received_front, value_clear, value_segments, received_field, column_next, column_after, lines_fit, passes}
use Rattle.received.specs.Received.Place.{place}
use Rattle.received.specs.TokenLaws.{bytes_step, bytes_none}

-- ---- what is left of a value, from a column on

module _ {comments on : Bool} {s : List ℕ} {i e : ℕ} {what : ReceivedKind} (column : ℕ) (h : i < length s) (t : Took comments s i what e) (o : on ≡ goes_on comments what) where
  pub column_step : {next : ℕ} → next ≡ column_after column (rendered (becomes what (take (e - i) (drop i s))))
      → column_after column (rendered (becoming received_front (place comments (eqb i 0)) (drop i s))) ≡ column_after next (rendered (becoming received_front (place on (eqb e 0)) (drop e s)))
  column_step q =
      let more = rendered (becoming received_front (place on (eqb e 0)) (drop e s)) in
      ap (column_after column) (bytes_step h t o) ∙ (column_append column (rendered (becomes what (take (e - i) (drop i s)))) more ∙ ap (λ n. column_after n more) (sym q))

pub column_end : (column : ℕ) (at : Place) (s : List ℕ) (i : ℕ) → length s ≤ i → column_after column (rendered (becoming received_front at (drop i s))) ≡ column
unfolding column_after
column_end column at s i h = rw (bytes_none at s i h)

pub column_same : (column : ℕ) {x y : List ℕ} {r : ℕ} → r ≡ column_after column x → x ≡ y → r ≡ column_after column y
column_same column q e = q ∙ ap (column_after column) e

pub column_none : (column : ℕ) {y : List ℕ} → [] ≡ y → column ≡ column_after column y
unfolding column_after
column_none column e = rw (← e)

-- the field, as code goes
pub lines_are : (name value : List ℕ) {a colon v last : ℕ} → a ≡ column_after 0 name → colon ≡ column_after a (58 ∷ []) → v ≡ column_after colon (rendered (value_segments value)) → last ≡ column_after v (13 ∷ 10 ∷ [])
    → leb last 999 ≡ lines_fit (rendered (received_field name value))
unfolding received_field lines_fit
lines_are name value {a} {colon} {v} qa qc qv ql =
    let bytes = rendered (value_segments value) in
    let first : column_after 0 (name ++ (58 ∷ [])) ≡ colon = column_append 0 name (58 ∷ []) ∙ (ap (λ n. column_after n (58 ∷ [])) (sym qa) ∙ sym qc) in
    let all_bytes : column_after 0 (rendered (received_field name value)) ≡ column_after v (13 ∷ 10 ∷ []) =
    ap (column_after 0) (named_bytes name (value_segments value))
    ∙ (column_append 0 (name ++ (58 ∷ [])) (bytes ++ (13 ∷ 10 ∷ []))
    ∙ (ap (λ n. column_after n (bytes ++ (13 ∷ 10 ∷ []))) first
    ∙ (column_append colon bytes (13 ∷ 10 ∷ []) ∙ ap (λ n. column_after n (13 ∷ 10 ∷ [])) (sym qv)))) in
    rw (all_bytes, ← ql)

-- ---- no line has more bytes than the field before it changed

column_le : (column : ℕ) (s : List ℕ) → column_after column s ≤ column + length s
unfolding column_after column_next
column_le column [] = omega arith
column_le column (b ∷ s) =
    let next = column_next column b in
    let step : next ≤ column + 1 =
    cond_has (λ n. n ≤ column + 1) (leb column 999) (cond (eqb b 10) 0 (column + 1)) column
    (λ t. cond_has (λ n. n ≤ column + 1) (eqb b 10) 0 (column + 1) (λ u. omega arith) (λ u. omega arith))
    (λ t. omega arith) in
    omega (arith, column_le next s)

-- what becomes of bytes grows no line past the column where they would end
abbrev Within : List ℕ → List ℕ → Type 0
Within part bytes = (column : ℕ) → column + length part ≤ 998 → column_after column bytes ≤ column + length part

within_append : (a b x y : List ℕ) → Within a x → Within b y → Within (a ++ b) (x ++ y)
within_append a b x y f g column h =
    let size = length-append a b in
    let first = f column (omega arith) in
    let mid = column_after column x in
    let second = g mid (omega arith) in
    rw (column_append column x y) (omega arith)

within_part : (part : List ℕ) → T (nonempty part) → Within part (rendered (part_segments part))
within_part [] n column h = absurd n
within_part (b ∷ part) n column h =
    let whole : List ℕ = b ∷ part in
    by_test (all is_ascii whole)
    (λ t. omega (arith, column_le column whole, part_ascii column whole (yes_true (all is_ascii whole) t) refl))
    (λ t. omega (arith, line_starts column (omega arith), part_encoded column whole (no_false (all is_ascii whole) t) refl))

within_parts : (ps : List (List ℕ)) → T (all nonempty ps) → Within (joined ps) (rendered (joined (map part_segments ps)))
unfolding rendered column_after
within_parts [] n column h = omega arith
within_parts (p ∷ ps) n column h =
    let both = and_yes (nonempty p) (all nonempty ps) n in
    rw (rendered_append (part_segments p) (joined (map part_segments ps)))
    (within_append p (joined ps) (rendered (part_segments p)) (rendered (joined (map part_segments ps))) (within_part p both.0) (within_parts ps both.1) column h)

within_comment : (comment : List ℕ) → Within comment (comment_bytes comment)
unfolding parts
within_comment comment = rw (parts_joined comment) at (within_parts (parts comment) (cut_some part_len comment))

within_raw : (s : List ℕ) → Within s (rendered (raw s ∷ []))
unfolding rendered
within_raw s column h = rw (append-nil s) (column_le column s)

within_none : (s : List ℕ) → Within s (rendered [])
unfolding rendered column_after
within_none s column h = omega arith

within_token : (what : Kind) (t : List ℕ) → Within t (rendered (field.becomes what t))
unfolding field.becomes
within_token what t =
    cond_has (λ (p : List Segment). Within t (rendered p)) (comment_kind what) (joined (map part_segments (parts t))) (raw t ∷ []) (λ c. within_comment t) (λ c. within_raw t)

within_structured : {comments on : Bool} {part more : List ℕ} {p : List Segment} → TokenRule field.clear field.becomes comments part more p on → Within part (rendered p)
within_structured (TokenRule.token {what = what} {t = t} m c) = within_token what t

within_rule : {at after : Place} {part more : List ℕ} {p : List Segment} → ReceivedRule at part more p after → Within part (rendered p)
within_rule (ReceivedRule.token r n) = within_structured (from_rule r)
within_rule (ReceivedRule.clause {c = c} g w) = cond_has (λ (p : List Segment). Within c (rendered p)) (all is_ascii c) (raw c ∷ []) [] (λ a. within_raw c) (λ a. within_none c)

within_value : {at : Place} {text : List ℕ} {p : List Segment} → Value ReceivedRule at text p → Within text (rendered p)
within_value Value.end = within_none []
within_value (Value.next {part = part} {more = more} {p = p} {q = q} r v) =
    rw (rendered_append p q) (within_append part more (rendered p) (rendered q) (within_rule r) (within_value v))

-- ---- the tests of code

module _ (name value : List ℕ) {clear : Bool} (q : clear ≡ value_clear value) where
  pub passes_not : clear ≡ false → false ≡ passes name value
  unfolding passes
  passes_not z = rw (sym q ∙ z)

  pub passes_lines : {r : Bool} → clear ≡ true → r ≡ lines_fit (rendered (received_field name value)) → r ≡ passes name value
  unfolding passes
  passes_lines z e = rw (sym q ∙ z) e

  pub passes_short : clear ≡ true → leb (length name) 100 && leb (length value) 800 ≡ true → true ≡ passes name value
  unfolding lines_fit received_field
  passes_short z short =
      let both = and_yes (leb (length name) 100) (leb (length value) 800) (true_yes (leb (length name) 100 && leb (length value) 800) short) in
      let n : length name ≤ 100 = leb_yes both.0 in
      let v : length value ≤ 800 = leb_yes both.1 in
      let label = name ++ (58 ∷ []) in
      let bytes = rendered (value_segments value) in
      let start = column_after 0 label in
      let first : start ≤ 101 = omega (arith, column_le 0 label, length-append name (58 ∷ [])) in
      let made = value_made value (true_yes (value_clear value) (sym q ∙ z)) in
      let second : column_after start bytes ≤ start + length value = within_value made start (omega arith) in
      let whole : column_after 0 (rendered (received_field name value)) ≡ column_after (column_after start bytes) (13 ∷ 10 ∷ []) =
      ap (column_after 0) (named_bytes name (value_segments value)) ∙ (column_append 0 label (bytes ++ (13 ∷ 10 ∷ [])) ∙ column_append start bytes (13 ∷ 10 ∷ [])) in
      let last : column_after 0 (rendered (received_field name value)) ≤ 999 = rw whole (omega (arith, column_le (column_after start bytes) (13 ∷ 10 ∷ []))) in
      passes_lines z (sym (le-leb (column_after 0 (rendered (received_field name value))) 999 last))
