-- The names of a value's parameters, gathered one after another.
use Rattle.std.specs.Prelude.{◌≡◌, refl, Bool, true, false, not, cond, ◌&&◌, List, [], ◌∷◌, ◌++◌, map, ℕ, zero, suc, pred, ◌+◌, ◌-◌, ◌*◌, ◌≤◌, ◌<◌, min, T, length, take, drop}
use Rattle.std.proofs.Common.{sym, ap, ◌∙◌, append_assoc, append-nil, arith, length-append, length-take}
use Rattle.std.proofs.Math.Facts.{yes_and}
use Rattle.buffer.specs.Buffer.{AppendedCapped, greatest}
use Rattle.piece.proofs.PieceLaws.{MadeIn, made_in}
use Rattle.lists.specs.CutBy.{cut_by}
use Rattle.lists.specs.Lists.{all, joined}
use Rattle.lists.specs.ListsLaws.{all_append, cond_has}
use Rattle.lists.specs.Run.{run}
use Rattle.lists.specs.RunLaws.{run_all}
use Rattle.mime_parameter.specs.Extended.{is_token_byte}
use Rattle.structured_token.specs.declared.Kind.{Kind}
use Rattle.structured_token.specs.Tokens.{kind_of, size_of}
use Rattle.structured_token.specs.Walk.{Front, walk_after, walk, becomes_of}
use Rattle.mime_parameter.specs.Pieces.{value_text}
use Rattle.field_parameter.specs.Parameter.{parameter_len, name_of, value_of, is_converted}
use Rattle.structured_field.specs.StructuredField.{becomes}
use Rattle.parameter_names.specs.Names.{distinct, with_mark, marked, marked_len}
use Rattle.parameter_names.specs.NamesLaws.{marked_append, gathered}
use Rattle.parameterized_field.specs.declared.State.{State}
use Rattle.parameterized_field.specs.Value.{Item, item_names, new_line, dropped, own_mark, token_items, parameter_items, parameter_here, parameter_front, token_front, front, items_from, names_from}
use Rattle.parameterized_field.specs.StepLaws.{part_items, part_next, TookPart, map_append, names_step, names_end}

-- ---- the names of a part

unfoldable pub part_names : Bool → List ℕ → List (List ℕ)
part_names parameter p = cond parameter (name_of p ∷ []) []

line_names : (b : Bool) (item : Item) → joined (map item_names (new_line b ++ (item ∷ []))) ≡ item_names item
line_names true item = append-nil (item_names item)
line_names false item = append-nil (item_names item)

parameter_names_lem : (state : State) (p : List ℕ) → joined (map item_names (parameter_items state p)) ≡ name_of p ∷ []
unfolding parameter_items
parameter_names_lem state p =
    cond_has (λ (items : List Item). joined (map item_names items) ≡ name_of p ∷ []) (is_converted p) (Item.piece (name_of p) (value_text (value_of p)) ∷ []) (new_line state.fresh ++ (Item.stays (name_of p) p ∷ []))
    (λ t. refl)
    (λ t. line_names state.fresh (Item.stays (name_of p) p))

token_names : (state : State) (kind : Kind) (t more : List ℕ) → joined (map item_names (token_items state kind t more)) ≡ []
unfolding token_items
token_names state kind t more =
    let line = new_line (state.fresh && not (own_mark state kind)) ++ (Item.other (becomes kind t) ∷ []) in
    cond_has (λ (items : List Item). joined (map item_names items) ≡ []) (dropped state kind more) [] line
    (λ t. refl)
    (λ u. line_names (state.fresh && not (own_mark state kind)) (Item.other (becomes kind t)))

pub part_names_lem : (state : State) (parameter : Bool) (kind : Kind) (t more : List ℕ) → joined (map item_names (part_items state parameter kind t more)) ≡ part_names parameter t
unfolding part_items part_names
part_names_lem state true kind t more = parameter_names_lem state t
part_names_lem state false kind t more = token_names state kind t more

-- what a part adds to the names that are gathered
pub part_marked : {parameter : Bool} (p : List ℕ) → parameter ≡ true → with_mark (name_of p) ≡ marked (part_names parameter p)
unfolding part_names marked
part_marked p e = rw (e, append-nil)

pub part_unmarked : {parameter : Bool} (p : List ℕ) → parameter ≡ false → [] ≡ marked (part_names parameter p)
unfolding part_names marked
part_unmarked p e = rw e

-- and how much that is
pub part_marked_short : (parameter : Bool) (p : List ℕ) → length (marked (part_names parameter p)) ≤ length p + 1
unfolding part_names marked name_of
part_marked_short true p = rw append-nil (omega (arith, length-append (take (run is_token_byte p) p) (61 ∷ []), length-take (run is_token_byte p) p))
part_marked_short false p = omega arith

-- the names from a part on
pub marked_step : {state : State} {s : List ℕ} {at : ℕ} {parameter converted : Bool} {kind : Kind} {end : ℕ} → TookPart state s at parameter converted kind end
    → marked (names_from state (drop at s)) ≡ marked (part_names parameter (take (end - at) (drop at s))) ++ marked (names_from (part_next state parameter converted kind) (drop end s))
marked_step {state} {s} {at} {parameter} {converted} {kind} {end} t =
    let part = take (end - at) (drop at s) in
    rw (names_step t, part_names_lem state parameter kind part (drop end s)) (marked_append (part_names parameter part) (names_from (part_next state parameter converted kind) (drop end s)))

pub marked_none : (state : State) (s : List ℕ) (at : ℕ) → length s ≤ at → marked (names_from state (drop at s)) ≡ []
unfolding marked
marked_none state s at h = rw (names_end state s at h)

pub marked_grows : (parameter : Bool) (s : List ℕ) (i end next after : ℕ) → next ≤ 2 * i → i < end
    → after ≡ min (next + length (marked (part_names parameter (take (end - i) (drop i s))))) greatest → after ≤ 2 * end
marked_grows parameter s i end next after h k e =
    let part = take (end - i) (drop i s) in
    omega (arith, e, part_marked_short parameter (take (end - i) (drop i s)), length-take (end - i) (drop i s))

-- the names of items are token bytes
name_tokens : (p : List ℕ) → T (all is_token_byte (name_of p))
unfolding name_of
name_tokens p = run_all is_token_byte p

abbrev TokensIn : List Item → Type 0
TokensIn items = T (all (all is_token_byte) (joined (map item_names items)))

front_tokens : (state : State) (s : List ℕ) → TokensIn (front state s).becomes
unfolding front
front_tokens state s =
    let p = take (parameter_len state.comments s) s in
    let what = kind_of state.comments s in
    cond_has (λ (f : Front State Item). TokensIn f.becomes) (parameter_here state s) (parameter_front state s) (token_front state s)
    (λ t. rw (parameter_names_lem state p) (yes_and (all is_token_byte (name_of p)) true (name_tokens p) tt))
    (λ t. rw (token_names state what (take (size_of what s) s) (drop (size_of what s) s)) tt)

walk_tokens : (state : State) (k : ℕ) (s : List ℕ) → TokensIn (joined (map becomes_of (walk_after front state k s)))
unfolding walk_after
walk_tokens state k [] = tt
walk_tokens state (suc k) (b ∷ s) = walk_tokens state k s
walk_tokens state zero (b ∷ s) =
    let f = front state (b ∷ s) in
    let more = joined (map becomes_of (walk_after front f.next (pred f.size) s)) in
    rw (map_append item_names f.becomes more)
    (all_append (all is_token_byte) (joined (map item_names f.becomes)) (joined (map item_names more)) (front_tokens state (b ∷ s)) (walk_tokens f.next (pred f.size) s))

pub names_tokens : (state : State) (s : List ℕ) → T (all (all is_token_byte) (names_from state s))
unfolding names_from items_from walk
names_tokens state s = walk_tokens state 0 s

-- ---- gathered in a scratch that has room for them

pub names_made : (names : List (List ℕ)) (size : ℕ) {begun scratch : List ℕ} {n : ℕ} → AppendedCapped (marked names) 0 begun scratch n → n ≤ 2 * size → size ≤ 32768
    → 2 * size ≤ length begun → MadeIn scratch n (marked names)
names_made names size {begun} {scratch} {n} a h k l =
    let whole : length (marked names) ≡ n = omega (arith, a.place) in
    made_in a (omega (arith, whole)) (omega (arith, whole))

pub names_by : (state : State) (s : List ℕ) {scratch : List ℕ} {n : ℕ} {r : Bool} → MadeIn scratch n (marked (names_from state s)) → r ≡ distinct (cut_by marked_len (take n scratch))
    → r ≡ distinct (names_from state s)
names_by state s u e = e ∙ (rw u.is (gathered (names_from state s) (names_tokens state s)))
