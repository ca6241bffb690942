-- The values of fields with parameters, as rules that make texts together with what becomes of them. GrammarLaws.antt proves that these are
-- the values of which every part is clear, and that `items_from` gives what becomes of each.
use Rattle.std.specs.Prelude.{◌≡◌, not, true, false, ◌&&◌, List, [], ◌∷◌, ◌++◌, ℕ, T}
use Rattle.lists.specs.Byte.{is_ascii}
use Rattle.lists.specs.Lists.{all}
use Rattle.structured_token.specs.declared.Kind.{Kind}
use Rattle.structured_token.specs.declared.Kind.TheVariants.{White}
use Rattle.structured_token.specs.Grammar.{Token}
use Rattle.structured_token.specs.Walk.{Value}
use Rattle.structured_field.specs.StructuredField.{clear, becomes}
use Rattle.mime_parameter.specs.Pieces.{value_text, has_room}
use Rattle.field_parameter.specs.Parameter.{no_star}
use Rattle.field_parameter.specs.Grammar.{Parameter, standing, NoParameter}
use Rattle.parameterized_field.specs.declared.State.{State}
use Rattle.parameterized_field.specs.Value.{Item, new_line, own_mark, after_token, after_parameter, start}
use Rattle.parameterized_field.specs.Value.Item.{piece, stays, other}

-- White space and folds that go, by what follows them: those after the last piece and its `;`, and "white space and folds before" a piece.
pub data Goes (state : State) (more : List ℕ) : Type 0 where
  after_piece : T state.fresh → Goes state more
  before_piece : {name value rest : List ℕ} → T state.after → Parameter state.comments name value rest → T (not (all is_ascii value))
      → more ≡ standing name value ++ rest → Goes state more

-- "A parameter follows a `;` outside comments and quoted strings": its value is converted by RFC 2231, or the parameter stays where its value is
-- ASCII. All else is tokens: "Comments follow [1].", others stay. A field is held "Where a parameter name has `*` .. or leaves no room for a
-- character, or non-ASCII stands elsewhere": no rule makes these.
pub data ParameterizedRule : State → List ℕ → List ℕ → List Item → State → Type 0 where
  converted : {state : State} {name value more : List ℕ} → T state.after → Parameter state.comments name value more
      → T (all no_star name) → T (not (all is_ascii value)) → T (has_room name (value_text value))
      → ParameterizedRule state (standing name value) more (piece name (value_text value) ∷ []) (after_parameter state true)
  ascii : {state : State} {name value more : List ℕ} → T state.after → Parameter state.comments name value more
      → T (all no_star name) → T (all is_ascii value)
      → ParameterizedRule state (standing name value) more
      (new_line state.fresh ++ (stays name (standing name value) ∷ [])) (after_parameter state false)
  gone : {state : State} {t more : List ℕ} → Token state.comments White t more → Goes state more
      → ParameterizedRule state t more [] (after_token state White)
  token : {state : State} {what : Kind} {t more : List ℕ} → Token state.comments what t more
      → (T state.after → NoParameter state.comments (t ++ more)) → (what ≡ White → Goes state more → ⊥) → T (clear what t)
      → ParameterizedRule state t more
      (new_line (state.fresh && not (own_mark state what)) ++ (other (becomes what t) ∷ [])) (after_token state what)

-- A value and what becomes of it, part by part. That no name is shared by two parameters is asked of the items besides.
abbrev pub ParameterizedValue : List ℕ → List Item → Type 0
ParameterizedValue text items = Value ParameterizedRule start text items
