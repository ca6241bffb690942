-- The rules of values with parameters make exactly what stands at the front of a text and is clear, so that the grammar makes exactly the
-- values that are clear.
use borrow.Author.Tests.{lt-ltb}
use Rattle.std.specs.Prelude.{◌≡◌, refl, Bool, true, false, not, cond, ◌&&◌, ◌||◌, List, [], ◌∷◌, ◌++◌, map, ℕ, ◌<◌, T, ltb, length, take, drop}
use Rattle.std.proofs.Common.{sym, ap, ◌∙◌, ⊎_elim, arith, T_not}
use Rattle.std.proofs.Math.Bool.{and-false, or-true}
use Rattle.std.proofs.Math.Seq.{take-append_seam, drop-append_seam}
use Rattle.std.proofs.Math.Facts.{and_yes, yes_and, or_yes, ltb_yes, ltb_no}
use Rattle.lists.specs.Byte.{is_ascii}
use Rattle.lists.specs.Lists.{all, joined}
use Rattle.lists.specs.ListsLaws.{by_test, yes_true, true_yes, no_false, all_weaken}
use Rattle.structured_token.specs.declared.Kind.{Kind}
use Rattle.structured_token.specs.declared.Kind.TheVariants as kind
use Rattle.structured_token.specs.Tokens.{is_white, kind_of, size_of, white_kind}
use Rattle.structured_token.specs.Grammar.{Token}
use Rattle.structured_token.proofs.GrammarLaws.{token_taken, found}
use Rattle.structured_token.specs.Walk.{Front, walk, clear_of, becomes_of}
use Rattle.structured_token.proofs.WalkLaws as walks
use Rattle.structured_field.specs.StructuredField.{clear, becomes}
use Rattle.mime_parameter.specs.Pieces.{value_text, has_room}
use Rattle.field_parameter.specs.Parameter.{parameter_len, is_converted, no_star, name_of, value_of, parameter_clear, converted_next}
use Rattle.field_parameter.specs.Grammar.{Parameter, standing, NoParameter}
use Rattle.field_parameter.specs.GrammarLaws.{name_is, value_is, parameter_taken, found_parameter, none_found, found_none, white_ascii, white_none, converted_is, converted_next_lem, next_converted}
use Rattle.parameter_names.specs.Names.{distinct}
use Rattle.parameterized_field.specs.declared.State.{State}
use Rattle.parameterized_field.specs.Value.{Item, new_line, dropped, own_mark, token_items, parameter_items, after_token, after_parameter, start, parameter_here, front, items_from, clear_from, item_names, names_from, passes}
use Rattle.parameterized_field.specs.Value.Item.{piece, stays, other}
use Rattle.parameterized_field.specs.Grammar.{Goes, ParameterizedRule, ParameterizedValue}

-- ---- a parameter at the front

abbrev parameter_front : State → List ℕ → List ℕ → Front State Item
parameter_front state name value =
    let p = standing name value in
    record { size = length p; clear = parameter_clear p; becomes = parameter_items state p; next = after_parameter state (is_converted p) }

module _ (state : State) {name value more : List ℕ} (a : T state.after) (p : Parameter state.comments name value more) where
  parameter_front_lem : front state (standing name value ++ more) ≡ parameter_front state name value
  unfolding front
  parameter_front_lem =
      let k = parameter_taken p in
      rw (yes_true state.after a, k.size, lt-ltb 0 (length (standing name value)) k.some, take-append_seam (standing name value) more)

  clear_is : parameter_clear (standing name value) ≡ all no_star name && (not (not (all is_ascii value)) || has_room name (value_text value))
  unfolding parameter_clear
  clear_is = rw (name_is name value p.token, value_is name value p.token, converted_is p)

  module _ (c : T (not (all is_ascii value))) where
    is_converted_lem : is_converted (standing name value) ≡ true
    is_converted_lem = converted_is p ∙ yes_true (not (all is_ascii value)) c

    converted_items : parameter_items state (standing name value) ≡ piece name (value_text value) ∷ []
    unfolding parameter_items
    converted_items = rw (is_converted_lem, name_is name value p.token, value_is name value p.token)

    clear_converted : parameter_clear (standing name value) ≡ all no_star name && has_room name (value_text value)
    clear_converted = clear_is ∙ rw (no_false (all is_ascii value) c)

  module _ (c : T (all is_ascii value)) where
    not_converted : is_converted (standing name value) ≡ false
    not_converted = converted_is p ∙ rw (yes_true (all is_ascii value) c)

    ascii_items : parameter_items state (standing name value) ≡ new_line state.fresh ++ (stays name (standing name value) ∷ [])
    unfolding parameter_items
    ascii_items = rw (not_converted, name_is name value p.token)

    clear_ascii : parameter_clear (standing name value) ≡ all no_star name && true
    clear_ascii = clear_is ∙ rw (yes_true (all is_ascii value) c)

-- ---- a token at the front

abbrev token_front : State → Kind → List ℕ → List ℕ → Front State Item
token_front state what t more =
    record { size = length t; clear = clear what t; becomes = token_items state what t more; next = after_token state what }

module _ (state : State) {what : Kind} {t more : List ℕ} (m : Token state.comments what t more) where
  token_front_lem : parameter_here state (t ++ more) ≡ false → front state (t ++ more) ≡ token_front state what t more
  unfolding front
  token_front_lem none =
      let k = token_taken m in
      rw (none, k.what_is, k.size, take-append_seam t more, drop-append_seam t more)

not_here : (state : State) (s : List ℕ) → (T state.after → NoParameter state.comments s) → parameter_here state s ≡ false
not_here state s none =
    by_test state.after
    (λ t. rw (yes_true state.after t, found_none state.comments s (none t)))
    (λ t. rw (no_false state.after t))

here_not : (state : State) (s : List ℕ) → parameter_here state s ≡ false → T state.after → NoParameter state.comments s
here_not state s none t = none_found state.comments s (no_length (parameter_len state.comments s) (rw (yes_true state.after t) at none))
  where
    no_length : (n : ℕ) → ltb 0 n ≡ false → n ≡ 0
    no_length n e = by_test (ltb 0 n) (λ t. absurd (rw e at t)) (λ t. omega (arith, ltb_no {a = 0} {b = n} t))

white_length : {comments : Bool} {t more : List ℕ} → Token comments kind.White t more → parameter_len comments (t ++ more) ≡ 0
white_length (Token.white {w = []} n h e) = absurd n
white_length {comments} (Token.white {w = b ∷ w} {more = more} n h e) = white_none comments b (w ++ more) (and_yes (is_white b) (all is_white w) h).0

white_here : (state : State) {t more : List ℕ} → Token state.comments kind.White t more → parameter_here state (t ++ more) ≡ false
white_here state m = rw (white_length m, and-false state.after)

-- ---- white space that goes

goes_dropped : (state : State) (more : List ℕ) → Goes state more → dropped state kind.White more ≡ true
unfolding dropped
goes_dropped state more (Goes.after_piece f) = rw (yes_true state.fresh f)
goes_dropped state more (Goes.before_piece {name} {value} {rest} a p c e) = rw (yes_true state.after a, e, converted_next_lem p c) (or-true state.fresh)

white_is : (what : Kind) → T (white_kind what) → what ≡ kind.White
white_is kind.Comment h = absurd h
white_is kind.Quoted h = absurd h
white_is kind.White h = refl
white_is kind.Open h = absurd h
white_is kind.Semicolon h = absurd h
white_is kind.Plain h = absurd h
white_is kind.End h = absurd h

record DroppedWhite (state : State) (what : Kind) (more : List ℕ) : Type 0 where
  white : what ≡ kind.White
  goes : Goes state more

dropped_goes : (state : State) (what : Kind) (more : List ℕ) → T (dropped state what more) → DroppedWhite state what more
unfolding dropped
dropped_goes state what more t =
    let next = converted_next state.comments more in
    let both = and_yes (white_kind what) (state.fresh || (state.after && next)) t in
    record {
      white = white_is what both.0;
      goes =
          ⊎_elim
          (λ f. Goes.after_piece f)
          (λ u.
          let two = and_yes state.after next u in
          let f = next_converted state.comments more two.1 in
          Goes.before_piece two.0 f.found.made f.converted f.found.is)
          (or_yes state.fresh (state.after && next) both.1);
    }

not_dropped : (state : State) (what : Kind) (more : List ℕ) → (what ≡ kind.White → Goes state more → ⊥) → dropped state what more ≡ false
not_dropped state what more none =
    by_test (dropped state what more)
    (λ t. let d = dropped_goes state what more t in absurd (none d.white d.goes))
    (λ t. no_false (dropped state what more) t)

stays_items : (state : State) (what : Kind) (t more : List ℕ) → dropped state what more ≡ false
    → token_items state what t more ≡ new_line (state.fresh && not (own_mark state what)) ++ (other (becomes what t) ∷ [])
unfolding token_items
stays_items state what t more e = rw e

gone_items : (state : State) (what : Kind) (t more : List ℕ) → dropped state what more ≡ true → token_items state what t more ≡ []
unfolding token_items
gone_items state what t more e = rw e

-- ---- what the rules make stands at the front

white_clear : {comments : Bool} {t more : List ℕ} → Token comments kind.White t more → clear kind.White t ≡ true
unfolding clear
white_clear (Token.white {w = w} n h e) = yes_true (all is_ascii w) (all_weaken is_white is_ascii white_ascii w h)

rule_taken : {state after : State} {t more : List ℕ} {p : List Item} → ParameterizedRule state t more p after → walks.Taken front state t more p after
rule_taken (ParameterizedRule.converted {state} {name} {value} {more} a p star c room) =
    let clear : all no_star name && has_room name (value_text value) ≡ true = yes_true _ (yes_and (all no_star name) (has_room name (value_text value)) star room) in
    record { is = parameter_front_lem state a p ∙ rw (clear_converted state a p c, clear, converted_items state a p c, is_converted_lem state a p c); some = (parameter_taken p).some }
rule_taken (ParameterizedRule.ascii {state} {name} {value} {more} a p star c) =
    let clear : all no_star name && true ≡ true = yes_true _ (yes_and (all no_star name) true star tt) in
    record { is = parameter_front_lem state a p ∙ rw (clear_ascii state a p c, clear, ascii_items state a p c, not_converted state a p c); some = (parameter_taken p).some }
rule_taken (ParameterizedRule.gone {state} {t} {more} m g) =
    record {
      is = token_front_lem state m (white_here state m) ∙ rw (gone_items state kind.White t more (goes_dropped state more g), white_clear m);
      some = (token_taken m).some;
    }
rule_taken (ParameterizedRule.token {state} {what} {t} {more} m none stay c) =
    record {
      is = token_front_lem state m (not_here state (t ++ more) none) ∙ rw (stays_items state what t more (not_dropped state what more stay), yes_true (clear what t) c);
      some = (token_taken m).some;
    }

-- ---- what stands at the front and is clear the rules make

abbrev Makes : State → List ℕ → Front State Item → Type 0
Makes state s f = T f.clear → ParameterizedRule state (take f.size s) (drop f.size s) f.becomes f.next

makes_same : (state : State) (s : List ℕ) {f g : Front State Item} → f ≡ g → Makes state s g → Makes state s f
makes_same state s e m = rw e m

makes_parameter : (state : State) {name value more : List ℕ} → T state.after → Parameter state.comments name value more
    → Makes state (standing name value ++ more) (parameter_front state name value)
makes_parameter state {name} {value} {more} a p =
    rw (take-append_seam (standing name value) more, drop-append_seam (standing name value) more)
    (by_test (all is_ascii value)
    (λ t. rw (clear_ascii state a p t, ascii_items state a p t, not_converted state a p t) (λ c. ParameterizedRule.ascii a p (and_yes (all no_star name) true c).0 t))
    (λ t. rw (clear_converted state a p t, converted_items state a p t, is_converted_lem state a p t)
    (λ c. let both = and_yes (all no_star name) (has_room name (value_text value)) c in ParameterizedRule.converted a p both.0 t both.1)))

makes_token : (state : State) {what : Kind} {t more : List ℕ} → Token state.comments what t more → parameter_here state (t ++ more) ≡ false
    → Makes state (t ++ more) (token_front state what t more)
makes_token state {what} {t} {more} m none =
    rw (take-append_seam t more, drop-append_seam t more)
    (by_test (dropped state what more)
    (λ u.
    let d = dropped_goes state what more u in
    rw (gone_items state what t more (yes_true (dropped state what more) u)) (λ c. gone_rule d.white m d.goes))
    (λ u. rw (stays_items state what t more (no_false (dropped state what more) u))
    (λ c. ParameterizedRule.token m (here_not state (t ++ more) none) (λ w g. T_not (dropped state what more) u (rw w (true_yes (dropped state kind.White more) (goes_dropped state more g)))) c)))
  where
    gone_rule : {what : Kind} → what ≡ kind.White → Token state.comments what t more → Goes state more → ParameterizedRule state t more [] (after_token state what)
    gone_rule w m g = rw w (ParameterizedRule.gone (rw w at m) g)

-- the rules make exactly what stands at the front
pub exact : walks.Exact front ParameterizedRule
exact = record { taken = λ r. rule_taken r; made = λ state b s. made_front state b s }
  where
    made_front : (state : State) (b : ℕ) (s : List ℕ) → Makes state (b ∷ s) (front state (b ∷ s))
    made_front state b s =
        by_test (parameter_here state (b ∷ s))
        (λ t.
        let both = and_yes state.after (ltb 0 (parameter_len state.comments (b ∷ s))) t in
        let f = found_parameter state.comments (b ∷ s) (ltb_yes {a = 0} {b = parameter_len state.comments (b ∷ s)} both.1) in
        rw f.is (makes_same state (standing f.name f.value ++ f.more) (parameter_front_lem state both.0 f.made) (makes_parameter state both.0 f.made)))
        (λ t.
        let f = found state.comments b s in
        let none = rw f.is at (no_false (parameter_here state (b ∷ s)) t) in
        rw f.is (makes_same state (f.t ++ f.more) (token_front_lem state f.made none) (makes_token state f.made none)))

-- ---- the grammar

record Reads (text : List ℕ) (items : List Item) : Type 0 where
  clear_all_lem : T (clear_from start text)
  is : items ≡ items_from start text

made_reads : {text : List ℕ} {items : List Item} → ParameterizedValue text items → Reads text items
unfolding clear_from items_from
made_reads v = let r = walks.made_reads front ParameterizedRule exact v in record { clear_all_lem = r.clear; is = r.is }

reads_made : {text : List ℕ} {items : List Item} → Reads text items → ParameterizedValue text items
unfolding clear_from items_from
reads_made {text} {items} r = walks.reads_made front ParameterizedRule exact {state = start} {text = text} {p = items} (record { clear = r.clear_all_lem; is = r.is })

-- what becomes of a value that is clear
pub value_made : (value : List ℕ) → T (clear_from start value) → ParameterizedValue value (items_from start value)
value_made value h = reads_made (record { clear_all_lem = h; is = refl })

-- ---- a value passes just where the grammar makes it and no name is shared

abbrev names_of : List Item → List (List ℕ)
names_of items = joined (map item_names items)

pub passes_made : (value : List ℕ) → T (passes value) → ParameterizedValue value (items_from start value) × T (distinct (joined (map item_names (items_from start value))))
unfolding passes names_from
passes_made value t =
    let both = and_yes (clear_from start value) (distinct (names_of (items_from start value))) t in
    (value_made value both.0, both.1)

pub made_passes : {value : List ℕ} {items : List Item} → ParameterizedValue value items → T (distinct (joined (map item_names items)))
    → T (passes value) × (items ≡ items_from start value)
unfolding passes names_from
made_passes {value} v names =
    let r = made_reads v in
    (yes_and (clear_from start value) (distinct (names_of (items_from start value))) r.clear_all_lem (rw r.is at names), r.is)
