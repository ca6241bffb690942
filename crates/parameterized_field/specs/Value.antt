-- What becomes of a value with parameters, and when its field is held.
use Rattle.std.specs.Prelude.{Bool, true, false, not, cond, ◌&&◌, ◌||◌, List, [], ◌∷◌, ◌++◌, map, ℕ, ltb, take, drop}
use Rattle.lists.specs.Lists.{all, joined}
use Rattle.encoded_word.specs.Segments.{Segment}
use Rattle.encoded_word.specs.Segments.Segment.{raw, parameter}
use Rattle.field.specs.Field.{named}
use Rattle.structured_token.specs.declared.Kind.{Kind}
use Rattle.structured_token.specs.declared.Kind.TheVariants.{Comment, Quoted, White, Open, Semicolon, Plain, End}
use Rattle.structured_token.specs.Tokens.{kind_of, size_of, goes_on, white_kind}
use Rattle.structured_token.specs.Walk.{Front, walk, clear_of, becomes_of}
use Rattle.structured_field.specs.StructuredField.{clear, becomes}
use Rattle.mime_parameter.specs.Pieces.{value_text}
use Rattle.field_parameter.specs.Parameter.{parameter_len, name_of, value_of, is_converted, parameter_clear, converted_next}
use Rattle.parameter_names.specs.Names.{distinct}
use Rattle.parameterized_field.specs.declared.State.{State}

-- ---- items

-- a value is a row of items: the name of a parameter that is converted and the text of its value, the name of one that stays and all its
-- bytes, or something else
pub data Item : Type 0 where
  piece : List ℕ → List ℕ → Item
  stays : List ℕ → List ℕ → Item
  other : List Segment → Item

abbrev pub item_segments : Item → List Segment
item_segments (piece name text) = parameter name text ∷ []
item_segments (stays name bytes) = raw bytes ∷ []
item_segments (other segments) = segments

abbrev pub item_names : Item → List (List ℕ)
item_names (piece name text) = name ∷ []
item_names (stays name bytes) = name ∷ []
item_names (other segments) = []

-- ---- the state: whether a comment may start; whether a `;` is the last thing but white space, folds and comments; whether a converted
-- piece is the last thing but white space, folds and its `;`; whether that `;` may still come

abbrev pub start : State
start = record { comments = true; after = false; fresh = false; own = false }

-- "What follows the last piece and its `;` [..] starts a new line with a space"
abbrev pub new_line : Bool → List Item
new_line true = other (raw (13 ∷ 10 ∷ 32 ∷ []) ∷ []) ∷ []
new_line false = []

-- ---- tokens

-- "A parameter follows a `;` outside comments and quoted strings, white space, folds and comments between"
abbrev pub stays_after : Bool → Kind → Bool
stays_after after Comment = after
stays_after after Quoted = false
stays_after after White = after
stays_after after Open = false
stays_after after Semicolon = true
stays_after after Plain = false
stays_after after End = after

abbrev pub semicolon_kind : Kind → Bool
semicolon_kind Comment = false
semicolon_kind Quoted = false
semicolon_kind White = false
semicolon_kind Open = false
semicolon_kind Semicolon = true
semicolon_kind Plain = false
semicolon_kind End = false

-- "white space and folds before it go"; so do those after the last piece and after its `;`
unfoldable pub dropped : State → Kind → List ℕ → Bool
dropped state what more = white_kind what && (state.fresh || (state.after && converted_next state.comments more))

-- the `;` of the last piece
abbrev pub own_mark : State → Kind → Bool
own_mark state what = semicolon_kind what && state.own

-- a token, and what follows it: "Comments follow [1].", all else byte for byte
unfoldable pub token_items : State → Kind → List ℕ → List ℕ → List Item
token_items state what t more =
    cond (dropped state what more) [] (new_line (state.fresh && not (own_mark state what)) ++ (other (becomes what t) ∷ []))

abbrev pub after_token : State → Kind → State
after_token state what = record {
  comments = goes_on state.comments what;
  after = stays_after state.after what;
  fresh = state.fresh && (white_kind what || own_mark state what);
  own = state.own && white_kind what;
}

-- ---- parameters

unfoldable pub parameter_items : State → List ℕ → List Item
parameter_items state p =
    cond (is_converted p) (piece (name_of p) (value_text (value_of p)) ∷ []) (new_line state.fresh ++ (stays (name_of p) p ∷ []))

abbrev pub after_parameter : State → Bool → State
after_parameter state converted = record { comments = state.comments; after = false; fresh = converted; own = converted }

-- ---- what stands at the front of a text

abbrev pub parameter_here : State → List ℕ → Bool
parameter_here state s = state.after && ltb 0 (parameter_len state.comments s)

abbrev pub parameter_front : State → List ℕ → Front State Item
parameter_front state s =
    let n = parameter_len state.comments s in
    let p = take n s in
    record { size = n; clear = parameter_clear p; becomes = parameter_items state p; next = after_parameter state (is_converted p) }

abbrev pub token_front : State → List ℕ → Front State Item
token_front state s =
    let what = kind_of state.comments s in
    let n = size_of what s in
    let t = take n s in
    let more = drop n s in
    record { size = n; clear = clear what t; becomes = token_items state what t more; next = after_token state what }

unfoldable pub front : State → List ℕ → Front State Item
front state s = cond (parameter_here state s) (parameter_front state s) (token_front state s)

-- ---- the value

unfoldable pub items_from : State → List ℕ → List Item
items_from state s = joined (map becomes_of (walk front state s))

unfoldable pub clear_from : State → List ℕ → Bool
clear_from state s = all clear_of (walk front state s)

unfoldable pub segments_from : State → List ℕ → List Segment
segments_from state s = joined (map item_segments (items_from state s))

unfoldable pub names_from : State → List ℕ → List (List ℕ)
names_from state s = joined (map item_names (items_from state s))

-- "Where a parameter name has `*`, is shared by two parameters (any case) or leaves no room for a character, or non-ASCII stands elsewhere,
-- the field stays held."
unfoldable pub passes : List ℕ → Bool
passes value = clear_from start value && distinct (names_from start value)

unfoldable pub parameterized_field : List ℕ → List ℕ → List Segment
parameterized_field name value = named name (segments_from start value)
