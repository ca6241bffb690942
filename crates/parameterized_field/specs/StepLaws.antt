-- A value part by part, as code goes through it.
use Rattle.std.proofs.Common.{lt-ltb, le-ltb, sym, ap, ◌∙◌, append_assoc, not-suc-le-zero, length-drop, drop_of_length-le, drop-drop}
use Rattle.std.proofs.Math.Path.{◌≡◌}
use Rattle.std.specs.Prelude.{refl, Bool, not, cond, ◌&&◌, ◌||◌, List, [], ◌∷◌, ◌++◌, map, T, ltb, length, take, drop}
use Rattle.std.proofs.Math.Bool.{true, false}
use Prim.Native.Nat.{ℕ, zero, suc, ◌+◌, ◌-◌, ◌*◌, ◌≤◌, ◌<◌}
use native.Mathlib.Omega.{arith}
use Rattle.lists.specs.Lists.{all, joined}
use Rattle.lists.specs.ListsLaws.{joined_append}
use Rattle.encoded_word.specs.Segments.{Segment, rendered}
use Rattle.encoded_word.specs.SegmentsLaws.{rendered_append}
use Rattle.structured_token.specs.declared.Kind.{Kind}
use Rattle.structured_token.specs.Tokens.{kind_of, size_of, Took}
use Rattle.structured_token.specs.Walk.{Front, walk, clear_of, becomes_of}
use Rattle.structured_token.proofs.WalkLaws.{walk_nil, walk_front}
use Rattle.structured_field.specs.StructuredField.{clear}
use Rattle.field_parameter.specs.Parameter.{parameter_len, is_converted, parameter_clear}
use Rattle.parameterized_field.specs.declared.State.{State}
use Rattle.parameterized_field.specs.Value.{Item, item_segments, item_names, parameter_items, token_items, after_token, after_parameter, parameter_here, parameter_front, token_front, front, items_from, clear_from, segments_from, names_from}

-- a token
pub record TookToken (comments : Bool) (s : List ℕ) (at : ℕ) (parameter : Bool) (kind : Kind) (end : ℕ) : Type 0 where
  pub no : parameter ≡ false
  pub what : kind ≡ kind_of comments (drop at s)
  pub is : end ≡ at + size_of kind (drop at s)
  pub some : at < end
  pub within : end ≤ length s

pub took_token : {comments : Bool} {s : List ℕ} {at : ℕ} {kind : Kind} {end : ℕ} → at < length s → Took comments s at kind end → TookToken comments s at false kind end
took_token h t = record { no = refl; what = t.what; is = t.is; some = t.some h; within = t.within h }

-- what a part is, whether it may stand there, what it becomes, and the state after it
unfoldable pub part_clear : Bool → Kind → List ℕ → Bool
part_clear parameter kind t = cond parameter (parameter_clear t) (clear kind t)

unfoldable pub part_items : State → Bool → Kind → List ℕ → List ℕ → List Item
part_items state parameter kind t more = cond parameter (parameter_items state t) (token_items state kind t more)

unfoldable pub part_next : State → Bool → Bool → Kind → State
part_next state parameter converted kind = cond parameter (after_parameter state converted) (after_token state kind)

pub record TookPart (state : State) (s : List ℕ) (at : ℕ) (parameter converted : Bool) (kind : Kind) (end : ℕ) : Type 0 where
  pub is : front state (drop at s) ≡ record {
    size = end - at;
    clear = part_clear parameter kind (take (end - at) (drop at s));
    becomes = part_items state parameter kind (take (end - at) (drop at s)) (drop end s);
    next = part_next state parameter converted kind;
  }
  pub conv : parameter ≡ true → converted ≡ is_converted (take (end - at) (drop at s))
  pub some : at < end
  pub within : end ≤ length s

module _ (state : State) (s : List ℕ) (at : ℕ) where
  there : (end : ℕ) → at < end → drop (end - at) (drop at s) ≡ drop end s
  there end h = let e : at + (end - at) ≡ end = omega arith in drop-drop (end - at) at s ∙ rw e

  module _ {parameter : Bool} {kind : Kind} {end : ℕ} (t : TookToken state.comments s at parameter kind end) where
    token_taken : parameter_here state (drop at s) ≡ false → (converted : Bool) → TookPart state s at parameter converted kind end
    unfolding front part_clear part_items part_next
    token_taken absent converted =
        let n : size_of kind (drop at s) ≡ end - at = omega (arith, t.is, t.some) in
        record {
          is = rw (absent, t.no, ← t.what, n, there end t.some);
          conv = λ e. absurd (clash (sym t.no ∙ e));
          some = t.some;
          within = t.within;
        }
      where
        clash : false ≡ true → ⊥
        clash e = let z : ◌≡◌ {A = ℕ} 0 1 = cc in omega arith

    pub not_after : state.after ≡ false → (converted : Bool) → TookPart state s at parameter converted kind end
    not_after e converted = token_taken (rw e) converted

    pub no_parameter : (found : ℕ) → found ≡ at + parameter_len state.comments (drop at s) → found ≡ at → (converted : Bool) → TookPart state s at parameter converted kind end
    no_parameter found q e converted =
        let z : parameter_len state.comments (drop at s) ≡ 0 = omega (arith, q, e) in
        token_taken (rw z (no_and state.after)) converted
      where
        no_and : (b : Bool) → b && false ≡ false
        no_and true = refl
        no_and false = refl

  pub parameter_taken : (kind : Kind) (end : ℕ) → state.after ≡ true → (end ≡ at + parameter_len state.comments (drop at s)) × (at ≤ length s → end ≤ length s)
      → (end ≡ at → ⊥) → at < length s → {converted : Bool} → converted ≡ is_converted (take (end - at) (drop at s)) → TookPart state s at true converted kind end
  unfolding front part_clear part_items part_next
  parameter_taken kind end a q o h {converted} c =
      let past : at < end = later (parameter_len state.comments (drop at s)) q.0 in
      let n : parameter_len state.comments (drop at s) ≡ end - at = omega (arith, q.0) in
      let here : parameter_here state (drop at s) ≡ true = rw (a, n) (lt-ltb 0 (end - at) (omega arith)) in
      record {
        is = rw (here, n, ← c);
        conv = λ e. c;
        some = past;
        within = q.1 (omega arith);
      }
    where
      later : (n : ℕ) → end ≡ at + n → at < end
      later zero e = absurd (o (omega (arith, e)))
      later (suc n) e = omega (arith, e)

-- ---- step by step

pub map_append : {A : Type 0} (f : Item → List A) (a b : List Item) → joined (map f (a ++ b)) ≡ joined (map f a) ++ joined (map f b)
map_append f [] b = refl
map_append f (x ∷ a) b = rw (map_append f a b) (sym (append_assoc (f x) (joined (map f a)) (joined (map f b))))

module _ {state : State} {s : List ℕ} {at : ℕ} {parameter converted : Bool} {kind : Kind} {end : ℕ} (t : TookPart state s at parameter converted kind end) where
  abbrev part : List ℕ
  part = take (end - at) (drop at s)

  abbrev items : List Item
  items = part_items state parameter kind part (drop end s)

  walk_step : walk front state (drop at s) ≡ front state (drop at s) ∷ walk front (part_next state parameter converted kind) (drop end s)
  walk_step =
      let f = front state (drop at s) in
      let size : f.size ≡ end - at = ap (λ (g : Front State Item). g.size) t.is in
      let next : f.next ≡ part_next state parameter converted kind = ap (λ (g : Front State Item). g.next) t.is in
      walk_front front state (drop at s) (rw length-drop (omega (arith, t.some, t.within))) (omega (arith, size, t.some))
      ∙ rw (size, next, there state s at end t.some)

  pub clear_step : {r : Bool} → r ≡ part_clear parameter kind part → clear_from state (drop at s) ≡ r && clear_from (part_next state parameter converted kind) (drop end s)
  unfolding clear_from
  clear_step q = rw (walk_step, t.is, ← q)

  items_step : items_from state (drop at s) ≡ items ++ items_from (part_next state parameter converted kind) (drop end s)
  unfolding items_from
  items_step = rw (walk_step, t.is)

  pub names_step : names_from state (drop at s) ≡ joined (map item_names items) ++ names_from (part_next state parameter converted kind) (drop end s)
  unfolding names_from
  names_step = rw items_step (map_append item_names items (items_from (part_next state parameter converted kind) (drop end s)))

  pub segments_step : rendered (segments_from state (drop at s)) ≡ rendered (joined (map item_segments items)) ++ rendered (segments_from (part_next state parameter converted kind) (drop end s))
  unfolding segments_from
  segments_step =
      let more = items_from (part_next state parameter converted kind) (drop end s) in
      rw (items_step, map_append item_segments items more) (rendered_append (joined (map item_segments items)) (joined (map item_segments more)))

module _ (state : State) (s : List ℕ) (at : ℕ) (h : length s ≤ at) where
  walk_end : walk front state (drop at s) ≡ []
  walk_end = rw (drop_of_length-le s {i = at} h) (walk_nil front state)

  pub clear_end : true ≡ clear_from state (drop at s)
  unfolding clear_from
  clear_end = rw walk_end

  pub names_end : names_from state (drop at s) ≡ []
  unfolding names_from items_from
  names_end = rw walk_end

  pub segments_end : rendered (segments_from state (drop at s)) ≡ []
  unfolding segments_from items_from rendered
  segments_end = rw walk_end
