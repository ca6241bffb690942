-- The parameters of a field's value, as rules. GrammarLaws.antt proves that `parameter_len` takes exactly what they make.
use Rattle.std.specs.Prelude.{◌≡◌, Bool, not, ◌||◌, List, [], ◌∷◌, ◌++◌, ℕ, T, eqb}
use Rattle.lists.specs.Lists.{all, nonempty}
use Rattle.comment.specs.Grammar.{Comment}
use Rattle.structured_token.specs.Tokens.{is_white}
use Rattle.mime_parameter.specs.Extended.{is_token_byte}
use Rattle.field_parameter.specs.Parameter.{is_value_byte}

-- what follows the quote (34) that opens "a closed quoted string", where a backslash (92) "escapes any next character"
pub data Closed : List ℕ → Type 0 where
  quote : Closed (34 ∷ [])
  plain : {b : ℕ} {s : List ℕ} → T (not (eqb b 34 || eqb b 92)) → Closed s → Closed (b ∷ s)
  escaped : {b : ℕ} {s : List ℕ} → Closed s → Closed (92 ∷ b ∷ s)

-- "a closed quoted string or a run of token bytes and non-ASCII characters"
pub data ParameterValue : List ℕ → Type 0 where
  quoted : {s : List ℕ} → Closed s → ParameterValue (34 ∷ s)
  bare : {s : List ℕ} → T (nonempty s) → T (all is_value_byte s) → ParameterValue s

-- "then white space, fold, comment, `;` or the end": all that stands after a parameter, where a comment may start or not. 59 is `;`.
pub data Ends (comments : Bool) : List ℕ → Type 0 where
  end : Ends comments []
  white : {b : ℕ} {more : List ℕ} → T (is_white b) → Ends comments (b ∷ more)
  semicolon : {more : List ℕ} → Ends comments (59 ∷ more)
  comment : {c : List ℕ} (more : List ℕ) → T comments → Comment c → Ends comments (c ++ more)

-- "a token of RFC 2045, `=`" (61) and a value: the parameter's name, its value as it stands, and what follows it
pub record Parameter (comments : Bool) (name value more : List ℕ) : Type 0 where
  pub named : T (nonempty name)
  pub token : T (all is_token_byte name)
  pub valued : ParameterValue value
  pub ends : Ends comments more

-- its bytes
abbrev pub standing : List ℕ → List ℕ → List ℕ
standing name value = name ++ (61 ∷ value)

-- no parameter at the front
abbrev pub NoParameter : Bool → List ℕ → Type 0
NoParameter comments s = (name value more : List ℕ) → Parameter comments name value more → s ≡ standing name value ++ more → ⊥
