-- What the value of a field becomes has no label: labels stand only where a field's text is encoded as a whole.
use Rattle.std.specs.Prelude.{Bool, true, false, not, ◌&&◌, T, take, drop}
use mathlib.Core.List.{List, [], ◌∷◌, ◌++◌, map, append-nil}
use Prim.Native.Nat.{ℕ, zero, suc, pred}
use Rattle.lists.specs.Byte.{is_ascii}
use Rattle.lists.specs.Lists.{all, joined}
use Rattle.lists.specs.ListsLaws.{cond_has, all_append}
use Rattle.rules.specs.declared.Rules.{Rules}
use Rattle.rules.specs.Rules.{removal_start, removal_end}
use Rattle.encoded_word.specs.Segments.{Segment}
use Rattle.encoded_word.specs.Segments.Segment.{raw, words}
use Rattle.comment.specs.Parts.{parts, run_text, is_blank_run}
use Rattle.phrase.specs.Phrase.{phrase_words, phrase_text}
use Rattle.piece.specs.Piece.{piece}
use Rattle.piece.specs.CommentPieces.{part_pieces, comment_pieces}
use Rattle.group.specs.Group.{Turn}
use Rattle.group.specs.Trimmed.{trimmed}
use Rattle.address_list.specs.declared.PartKind.{PartKind}
use Rattle.address_list.specs.declared.PartKind.TheVariants.{Blank, Comment, Comma, Colon, Semicolon, Phrase, Address, Angled, Alternative, Stray}
use Rattle.address_pieces.specs.Pieces.{phrase_pieces, removed, in_angles, address_pieces, pieces, turn_pieces, pieces_of}
use Rattle.structured_token.specs.Walk.{Front, walk_after, walk, becomes_of, becoming}
use Rattle.structured_token.specs.Tokens.{comment_kind}
use Rattle.structured_token.specs.declared.Kind.{Kind}
use Rattle.structured_field.specs.StructuredField.{part_segments, becomes as structured_becomes, structured_front, value_segments as structured_segments}
use Rattle.parameterized_field.specs.declared.State.{State}
use Rattle.parameterized_field.specs.Value.{Item, item_segments, start, new_line, own_mark, dropped, token_items, parameter_items, parameter_here, parameter_front, token_front, front, items_from, segments_from}
use Rattle.parameterized_field.specs.StepLaws.{map_append}
use Rattle.field_parameter.specs.Parameter.{is_converted}
use Rattle.received.specs.Received.{becomes as received_becomes, Place, received_front, value_segments as received_segments}
use Rattle.received_token.specs.declared.ReceivedKind.{ReceivedKind}
use Rattle.received_token.specs.declared.ReceivedKind.TheVariants.{Comment as CommentToken, Clause, BareFor, Open, Other}
use Rattle.downgraded_row.specs.ReadBackLaws.{unlabelled}

abbrev pub Unlabelled : List Segment → Type 0
Unlabelled ss = T (all unlabelled ss)

-- ---- part by part

module _ {A : Type 0} (f : A → List Segment) (each : (x : A) → Unlabelled (f x)) where
  pub parts_unlabelled : (xs : List A) → Unlabelled (joined (map f xs))
  parts_unlabelled [] = tt
  parts_unlabelled (x ∷ xs) = all_append unlabelled (f x) (joined (map f xs)) (each x) (parts_unlabelled xs)

module _ {S : Type 0} (front : S → List ℕ → Front S Segment) (each : (state : S) (s : List ℕ) → Unlabelled (front state s).becomes) where
  walk_unlabelled : (state : S) (k : ℕ) (s : List ℕ) → Unlabelled (joined (map becomes_of (walk_after front state k s)))
  unfolding walk_after
  walk_unlabelled state k [] = tt
  walk_unlabelled state (suc k) (b ∷ s) = walk_unlabelled state k s
  walk_unlabelled state zero (b ∷ s) =
      let f = front state (b ∷ s) in
      all_append unlabelled f.becomes (joined (map becomes_of (walk_after front f.next (pred f.size) s))) (each state (b ∷ s)) (walk_unlabelled f.next (pred f.size) s)

  pub becoming_unlabelled : (state : S) (s : List ℕ) → Unlabelled (becoming front state s)
  unfolding becoming walk
  becoming_unlabelled state s = walk_unlabelled state 0 s

-- ---- comments, structured fields and Received fields

part_unlabelled : (part : List ℕ) → Unlabelled (part_segments part)
unfolding part_segments
part_unlabelled part = cond_has Unlabelled (all is_ascii part) _ _ (λ t. tt) (λ t. tt)

token_unlabelled : (what : Kind) (token : List ℕ) → Unlabelled (structured_becomes what token)
unfolding structured_becomes
token_unlabelled what token = cond_has Unlabelled (comment_kind what) _ _ (λ t. parts_unlabelled part_segments part_unlabelled (parts token)) (λ t. tt)

pub structured_unlabelled : (value : List ℕ) → Unlabelled (structured_segments value)
unfolding structured_segments
structured_unlabelled value = becoming_unlabelled structured_front (λ state s. token_unlabelled _ _) true value

clause_unlabelled : (what : ReceivedKind) (token : List ℕ) → Unlabelled (received_becomes what token)
unfolding received_becomes
clause_unlabelled CommentToken token = parts_unlabelled part_segments part_unlabelled (parts token)
clause_unlabelled Clause token = cond_has Unlabelled (all is_ascii token) (raw token ∷ []) [] (λ t. tt) (λ t. tt)
clause_unlabelled BareFor token = tt
clause_unlabelled Open token = tt
clause_unlabelled Other token = tt

front_unlabelled : (state : Place) (s : List ℕ) → Unlabelled (received_front state s).becomes
front_unlabelled (Place.place comments start) s = clause_unlabelled _ _

pub received_unlabelled : (value : List ℕ) → Unlabelled (received_segments value)
unfolding received_segments
received_unlabelled value = becoming_unlabelled received_front front_unlabelled (Place.place true true) value

-- ---- fields with parameters

abbrev ItemsUnlabelled : List Item → Type 0
ItemsUnlabelled items = Unlabelled (joined (map item_segments items))

line_unlabelled : (b : Bool) (item : Item) → Unlabelled (item_segments item) → ItemsUnlabelled (new_line b ++ (item ∷ []))
line_unlabelled true item h = rw (append-nil (item_segments item)) h
line_unlabelled false item h = rw (append-nil (item_segments item)) h

parameter_unlabelled : (state : State) (p : List ℕ) → ItemsUnlabelled (parameter_items state p)
unfolding parameter_items
parameter_unlabelled state p = cond_has ItemsUnlabelled (is_converted p) _ _ (λ t. tt) (λ t. line_unlabelled state.fresh _ tt)

item_unlabelled : (state : State) (what : Kind) (t more : List ℕ) → ItemsUnlabelled (token_items state what t more)
unfolding token_items
item_unlabelled state what t more =
    cond_has ItemsUnlabelled (dropped state what more) [] _ (λ d. tt) (λ d. line_unlabelled (state.fresh && not (own_mark state what)) _ (token_unlabelled what t))

items_front : (state : State) (s : List ℕ) → ItemsUnlabelled (front state s).becomes
unfolding front
items_front state s =
    cond_has (λ (f : Front State Item). ItemsUnlabelled f.becomes) (parameter_here state s) (parameter_front state s) (token_front state s)
    (λ t. parameter_unlabelled state _)
    (λ t. item_unlabelled state _ _ _)

items_unlabelled : (state : State) (k : ℕ) (s : List ℕ) → ItemsUnlabelled (joined (map becomes_of (walk_after front state k s)))
unfolding walk_after
items_unlabelled state k [] = tt
items_unlabelled state (suc k) (b ∷ s) = items_unlabelled state k s
items_unlabelled state zero (b ∷ s) =
    let f = front state (b ∷ s) in
    let rest = joined (map becomes_of (walk_after front f.next (pred f.size) s)) in
    rw (map_append item_segments f.becomes rest)
    (all_append unlabelled (joined (map item_segments f.becomes)) (joined (map item_segments rest)) (items_front state (b ∷ s)) (items_unlabelled f.next (pred f.size) s))

pub parameterized_unlabelled : (value : List ℕ) → Unlabelled (segments_from start value)
unfolding segments_from items_from walk
parameterized_unlabelled value = items_unlabelled start 0 value

-- ---- address fields

pieces_each : (ts : List (List ℕ)) → Unlabelled (map piece ts)
pieces_each [] = tt
pieces_each (t ∷ ts) = pieces_each ts

comment_unlabelled : (part : List ℕ) → Unlabelled (part_pieces part)
unfolding part_pieces
comment_unlabelled part = cond_has Unlabelled (is_blank_run part) [] _ (λ t. tt) (λ t. cond_has Unlabelled (all is_ascii part) (piece part ∷ []) (words (run_text part) ∷ []) (λ u. tt) (λ u. tt))

removed_unlabelled : (rules : Rules) (t : List ℕ) → Unlabelled (removed rules t)
unfolding removed
removed_unlabelled rules t = all_append unlabelled (map piece (removal_start rules)) (words t ∷ piece (removal_end rules) ∷ []) (pieces_each (removal_start rules)) tt

module _ (rules : Rules) where
  bare_unlabelled : (t : List ℕ) → Unlabelled (address_pieces rules piece t)
  unfolding address_pieces
  bare_unlabelled t = cond_has Unlabelled (all is_ascii t) (piece t ∷ []) (removed rules t) (λ a. tt) (λ a. removed_unlabelled rules t)

  angled_unlabelled : (t : List ℕ) → Unlabelled (address_pieces rules in_angles t)
  unfolding address_pieces
  angled_unlabelled t = cond_has Unlabelled (all is_ascii t) (in_angles t ∷ []) (removed rules t) (λ a. tt) (λ a. removed_unlabelled rules t)

  phrase_unlabelled : (t : List ℕ) → Unlabelled (phrase_pieces t)
  unfolding phrase_pieces
  phrase_unlabelled t = cond_has Unlabelled (all is_ascii t) (map piece (phrase_words t)) (words (phrase_text t) ∷ []) (λ a. pieces_each (phrase_words t)) (λ a. tt)

  pieces_unlabelled : (kind : PartKind) (t : List ℕ) → Unlabelled (pieces rules kind t)
  unfolding pieces comment_pieces
  pieces_unlabelled Blank t = tt
  pieces_unlabelled Comment t = parts_unlabelled part_pieces comment_unlabelled (parts t)
  pieces_unlabelled Comma t = tt
  pieces_unlabelled Colon t = tt
  pieces_unlabelled Semicolon t = tt
  pieces_unlabelled Phrase t = phrase_unlabelled t
  pieces_unlabelled Address t = bare_unlabelled t
  pieces_unlabelled (Angled start size) t = angled_unlabelled (take size (drop start t))
  pieces_unlabelled (Alternative start size) t = tt
  pieces_unlabelled Stray t = tt

  turn_unlabelled : (t : Turn) → Unlabelled (turn_pieces rules t)
  unfolding turn_pieces
  turn_unlabelled (Turn.part kind t) = pieces_unlabelled kind t
  turn_unlabelled (Turn.lost_group t) = removed_unlabelled rules (trimmed t)

  pub turns_unlabelled : (ts : List Turn) → Unlabelled (pieces_of rules ts)
  unfolding pieces_of
  turns_unlabelled [] = tt
  turns_unlabelled (t ∷ ts) = all_append unlabelled (turn_pieces rules t) (pieces_of rules ts) (turn_unlabelled t) (turns_unlabelled ts)
