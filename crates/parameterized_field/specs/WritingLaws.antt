-- The writing of a value with parameters, and the test of its parts, step by step.
use Rattle.std.proofs.Common.{eq-eqb, ne_eqb, ◌∙◌, append-nil, add-one, arith, length-take, drop-cons, length-take-le}
use Rattle.std.specs.Prelude.{◌≡◌, refl, Bool, true, false, cond, ◌&&◌, ◌||◌, List, [], ◌∷◌, ◌++◌, map, ℕ, zero, suc, ◌+◌, ◌-◌, ◌*◌, ◌≤◌, ◌<◌, min, T, leb, eqb, get_or}
use Rattle.std.proofs.Math.Path.{sym, ap}
use Rattle.std.proofs.Math.Bool.{not}
use Rattle.std.proofs.Math.ListN.{length, take, drop, length-drop, drop_of_length-le}
use Rattle.std.proofs.Math.Seq.{take_all}
use Rattle.std.proofs.Math.Facts.{leb_yes, leb_no}
use Rattle.lists.specs.Byte.{is_ascii}
use Rattle.lists.specs.Lists.{all, joined}
use Rattle.lists.specs.ListsLaws.{by_test}
use Rattle.lists.specs.Run.{run}
use Rattle.lists.specs.RunLaws.{run_le}
use Rattle.buffer.specs.Buffer.{AppendedCapped, greatest}
use Rattle.buffer.specs.BufferLaws.{capped_none, capped_then, capped_same}
use Rattle.encoded_word.specs.Segments.{Segment, rendered}
use Rattle.encoded_word.specs.Segments.Segment.{raw, parameter}
use Rattle.field.proofs.FieldLaws.{named_added}
use Rattle.comment.specs.Parts.{parts}
use Rattle.piece.specs.Piece.{fitting}
use Rattle.piece.proofs.PieceLaws.{rendered_one, fitting_short, MadeIn, made_in}
use Rattle.structured_token.specs.declared.Kind.{Kind}
use Rattle.structured_token.specs.Tokens.{comment_kind, white_kind}
use Rattle.structured_field.specs.StructuredField.{part_segments, clear, becomes}
use Rattle.unquote.specs.UnquoteLaws.{length_kept_from}
use Rattle.mime_parameter.specs.Extended.{is_token_byte}
use Rattle.mime_parameter.specs.Pieces.{stays_in_value, value_text, has_room, parameter_lines, limited}
use Rattle.mime_parameter.specs.WritingLaws.{limited_short}
use Rattle.field_parameter.specs.Parameter.{no_star, name_of, value_of, is_converted, parameter_clear, converted_next}
use Rattle.parameterized_field.specs.declared.State.{State}
use Rattle.parameterized_field.specs.Value.{Item, item_segments, new_line, semicolon_kind, dropped, own_mark, token_items, parameter_items, segments_from, start, parameterized_field}
use Rattle.parameterized_field.specs.StepLaws.{part_clear, part_items}

-- ---- a parameter's name and value

module _ (p : List ℕ) (name : ℕ) (e : name ≡ 0 + run is_token_byte (drop 0 p)) where
  same_run : name ≡ run is_token_byte p
  same_run = omega (arith, e)

  pub name_within : name ≤ length p
  name_within = omega (arith, same_run, run_le is_token_byte p)

  pub name_size : name ≡ length (take name p)
  name_size = sym (length-take-le name p name_within)

  pub name_is : take name p ≡ name_of p
  unfolding name_of
  name_is = rw same_run

  -- from the place after its `=`, at most at its end
  pub value_is : (value : ℕ) → value ≡ min (name + 1) (length p) → take (length p - value) (drop value p) ≡ value_of p
  unfolding value_of
  value_is value q =
      let whole : take (length p - value) (drop value p) ≡ drop value p = take_all (length p - value) (drop value p) (rw length-drop (omega arith)) in
      whole ∙ (place ∙ ap (λ (n : ℕ). drop (n + 1) p) same_run)
    where
      place : drop value p ≡ drop (name + 1) p
      place =
          by_test (leb (name + 1) (length p))
          (λ t. let same : value ≡ name + 1 = omega (arith, q, leb_yes {a = name + 1} {b = length p} t) in rw same)
          (λ t. let over : length p < name + 1 = leb_no t in drop_of_length-le p {i = value} (omega (arith, q)) ∙ sym (drop_of_length-le p {i = name + 1} (omega arith)))

pub length_name : (p : List ℕ) → length (name_of p) ≤ length p
unfolding name_of
length_name p = omega (arith, length-take (run is_token_byte p) p)

pub length_text : (p : List ℕ) → length (value_text (value_of p)) ≤ length p
unfolding value_text value_of
length_text p = omega (arith, length_kept_from stays_in_value false (drop (run is_token_byte p + 1) p), length-drop (run is_token_byte p + 1) p)

-- made in a scratch that has room for it
pub text_made : (p : List ℕ) {begun scratch : List ℕ} {n : ℕ} → AppendedCapped (value_text (value_of p)) 0 begun scratch n → length p ≤ 32768 → length p ≤ length begun
    → MadeIn scratch n (value_text (value_of p))
text_made p a h k = made_in a (omega (arith, length_text p)) (omega (arith, length_text p))

-- ---- whether it holds the field

module _ (p : List ℕ) where
  pub star_held : {r : Bool} → r ≡ all no_star (name_of p) → r ≡ false → false ≡ parameter_clear p
  unfolding parameter_clear
  star_held q e = rw (← q, e)

  pub stays_clear : {r converted : Bool} → r ≡ all no_star (name_of p) → r ≡ true → converted ≡ is_converted p → converted ≡ false → true ≡ parameter_clear p
  unfolding parameter_clear
  stays_clear q e c f = rw (← q, e, ← c, f)

  pub room_clear : {r converted room : Bool} → r ≡ all no_star (name_of p) → r ≡ true → converted ≡ is_converted p → converted ≡ true → length p ≤ 32768
      → room ≡ has_room (limited (name_of p)) (limited (value_text (value_of p))) → room ≡ parameter_clear p
  unfolding parameter_clear
  room_clear q e c f h g =
      let a = limited_short (name_of p) (omega (arith, length_name p)) in
      let b = limited_short (value_text (value_of p)) (omega (arith, length_text p)) in
      rw (← q, e, ← c, f) (g ∙ rw (a, b))

-- ---- white space that goes

module _ (state : State) (kind : Kind) (more : List ℕ) {white : Bool} (k : white ≡ white_kind kind) where
  pub no_white : white ≡ false → false ≡ dropped state kind more
  unfolding dropped
  no_white e = rw (← k, e)

  pub white_fresh : white ≡ true → state.fresh ≡ true → true ≡ dropped state kind more
  unfolding dropped
  white_fresh e f = rw (← k, e, f)

  pub white_stays : white ≡ true → state.fresh ≡ false → state.after ≡ false → false ≡ dropped state kind more
  unfolding dropped
  white_stays e f a = rw (← k, e, f, a)

  pub white_before : white ≡ true → state.fresh ≡ false → state.after ≡ true → {r : Bool} → r ≡ converted_next state.comments more → r ≡ dropped state kind more
  unfolding dropped
  white_before e f a q = rw (← k, e, f, a) q

-- ---- what is written

abbrev pub line_start : Bool → List ℕ
line_start true = 13 ∷ 10 ∷ 32 ∷ []
line_start false = []

line_bytes : (b : Bool) (item : Item) → rendered (joined (map item_segments (new_line b ++ (item ∷ [])))) ≡ line_start b ++ rendered (item_segments item)
unfolding rendered
line_bytes true item = ap (λ (l : List Segment). (13 ∷ 10 ∷ 32 ∷ []) ++ rendered l) (append-nil (item_segments item))
line_bytes false item = ap rendered (append-nil (item_segments item))

-- a parameter
unfoldable pub parameter_bytes : Bool → List ℕ → List ℕ
parameter_bytes fresh p = cond (is_converted p) (parameter_lines (name_of p) (value_text (value_of p))) (line_start fresh ++ p)

parameter_bytes_lem : (state : State) (p : List ℕ) → rendered (joined (map item_segments (parameter_items state p))) ≡ parameter_bytes state.fresh p
unfolding parameter_items parameter_bytes
parameter_bytes_lem state p = go (is_converted p)
  where
    go : (b : Bool) → rendered (joined (map item_segments (cond b (Item.piece (name_of p) (value_text (value_of p)) ∷ []) (new_line state.fresh ++ (Item.stays (name_of p) p ∷ [])))))
        ≡ cond b (parameter_lines (name_of p) (value_text (value_of p))) (line_start state.fresh ++ p)
    go true = rendered_one (parameter (name_of p) (value_text (value_of p)))
    go false = line_bytes state.fresh (Item.stays (name_of p) p) ∙ ap (λ (l : List ℕ). line_start state.fresh ++ l) (rendered_one (raw p))

module _ (p : List ℕ) {converted : Bool} (c : converted ≡ is_converted p) where
  pub converted_added : converted ≡ true → (fresh : Bool) {before after : List ℕ} {at r : ℕ} → AppendedCapped (parameter_lines (name_of p) (value_text (value_of p))) at before after r
      → AppendedCapped (parameter_bytes fresh p) at before after r
  unfolding parameter_bytes
  converted_added e fresh a = capped_same (rw (← c, e)) a

  pub stays_added : converted ≡ false → (fresh : Bool) {before mid after : List ℕ} {at n r : ℕ} → length before ≤ greatest → AppendedCapped (line_start fresh) at before mid n
      → AppendedCapped p n mid after r → AppendedCapped (parameter_bytes fresh p) at before after r
  unfolding parameter_bytes
  stays_added e fresh h a b = capped_same (rw (← c, e)) (capped_then a b h)

-- the lines of a converted one, its text made in a scratch
pub lines_added : (p : List ℕ) (name : ℕ) → name ≡ 0 + run is_token_byte (drop 0 p) → length p ≤ 32768 → {scratch : List ℕ} {n : ℕ} → MadeIn scratch n (value_text (value_of p))
    → {before after : List ℕ} {at r : ℕ} → AppendedCapped (parameter_lines (limited (take name p)) (limited (take n scratch))) at before after r
    → AppendedCapped (parameter_lines (name_of p) (value_text (value_of p))) at before after r
lines_added p name e h u a =
    let x = limited_short (name_of p) (omega (arith, length_name p)) in
    let y = limited_short (value_text (value_of p)) (omega (arith, length_text p)) in
    rw (name_is p name e, u.is, x, y) at a

-- a token
module _ (kind : Kind) (t : List ℕ) {comment : Bool} (k : comment ≡ comment_kind kind) (fresh : Bool) {before mid after : List ℕ} {at n r : ℕ} (h : length before ≤ greatest)
    (l : AppendedCapped (line_start fresh) at before mid n) where
  pub comment_added : comment ≡ true → (room : ℕ) → (length t ≤ 32768) × (2 * length t ≤ room)
      → AppendedCapped (rendered (joined (map part_segments (parts (fitting room t))))) n mid after r → AppendedCapped (line_start fresh ++ rendered (becomes kind t)) at before after r
  unfolding becomes
  comment_added e room q a = capped_same (rw (← k, e)) (capped_then l (rw (fitting_short room t q.0 q.1) at a) h)

  pub token_added : comment ≡ false → AppendedCapped t n mid after r → AppendedCapped (line_start fresh ++ rendered (becomes kind t)) at before after r
  unfolding becomes rendered
  token_added e a = capped_same (rw (← k, e, append-nil)) (capped_then l a h)

-- a part
module _ (state : State) (kind : Kind) (t more : List ℕ) {parameter : Bool} where
  pub part_parameter : parameter ≡ true → {before after : List ℕ} {at r : ℕ} → AppendedCapped (parameter_bytes state.fresh t) at before after r
      → AppendedCapped (rendered (joined (map item_segments (part_items state parameter kind t more)))) at before after r
  unfolding part_items
  part_parameter e a = capped_same (rw e (sym (parameter_bytes_lem state t))) a

  module _ (e : parameter ≡ false) {gone : Bool} (g : gone ≡ dropped state kind more) where
    pub part_dropped : gone ≡ true → (before : List ℕ) (at : ℕ) → at ≤ greatest → AppendedCapped (rendered (joined (map item_segments (part_items state parameter kind t more)))) at before before at
    unfolding part_items token_items rendered
    part_dropped f before at h = capped_same (rw (e, ← g, f)) (capped_none at before h)

    pub part_token : gone ≡ false → {mark : Bool} → mark ≡ semicolon_kind kind → {before after : List ℕ} {at r : ℕ}
        → AppendedCapped (line_start (state.fresh && not (mark && state.own)) ++ rendered (becomes kind t)) at before after r
        → AppendedCapped (rendered (joined (map item_segments (part_items state parameter kind t more)))) at before after r
    unfolding part_items token_items
    part_token f m a =
        capped_same (rw (e, ← g, f) (sym (line_bytes (state.fresh && not (own_mark state kind)) (Item.other (becomes kind t))))) (rw m at a)
