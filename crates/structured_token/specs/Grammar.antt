-- The tokens of a structured field's value, as rules. GrammarLaws.antt proves that `kind_of` and `size_of` take exactly what they make.
use Rattle.std.specs.Prelude.{◌≡◌, Bool, true, not, ◌||◌, List, [], ◌∷◌, ◌++◌, ℕ, T, eqb, get_or}
use Rattle.lists.specs.Lists.{all, nonempty}
use Rattle.comment.specs.Grammar.{Comment}
use Rattle.structured_token.specs.declared.Kind.{Kind}
use Rattle.structured_token.specs.declared.Kind.TheVariants as kind
use Rattle.structured_token.specs.Tokens.{is_white, is_plain, goes_on}

-- What follows the quote (34) that opens a quoted string, up to the string's end, and all that stands after the string. "Outside address
-- fields an unclosed string runs to the field's end; in strings there and in all comments a backslash escapes any next character." At
-- that end a backslash (92) has none to escape.
pub data AfterQuote : List ℕ → List ℕ → Type 0 where
  closed : {more : List ℕ} → AfterQuote (34 ∷ []) more
  unclosed : AfterQuote [] []
  backslash : AfterQuote (92 ∷ []) []
  plain : {b : ℕ} {s more : List ℕ} → T (not (eqb b 34 || eqb b 92)) → AfterQuote s more → AfterQuote (b ∷ s) more
  escaped : {b : ℕ} {s more : List ℕ} → AfterQuote s more → AfterQuote (92 ∷ b ∷ s) more

-- no comment at the front
abbrev pub NoComment : List ℕ → Type 0
NoComment s = (c more : List ℕ) → Comment c → s ≡ c ++ more → ⊥

-- A token, and all that stands after it; where a comment may start or not. Runs are taken whole: the byte after one, where there is any, is of
-- another kind (34 stands for none). "No comment starts inside a quoted string." An unclosed parenthesis (40) is one that no comment starts
-- with. 59 is `;`.
pub data Token : Bool → Kind → List ℕ → List ℕ → Type 0 where
  comment : {c more : List ℕ} → Comment c → Token true kind.Comment c more
  quoted : {comments : Bool} {s more : List ℕ} → AfterQuote s more → Token comments kind.Quoted (34 ∷ s) more
  white : {comments : Bool} {w more : List ℕ} → T (nonempty w) → T (all is_white w) → T (not (is_white (get_or more 0 34))) → Token comments kind.White w more
  unclosed : {comments : Bool} {more : List ℕ} → (T comments → NoComment (40 ∷ more)) → Token comments kind.Open (40 ∷ []) more
  semicolon : {comments : Bool} {more : List ℕ} → Token comments kind.Semicolon (59 ∷ []) more
  plain : {comments : Bool} {w more : List ℕ} → T (nonempty w) → T (all is_plain w) → T (not (is_plain (get_or more 0 34))) → Token comments kind.Plain w more

-- The rule of a field that is read token by token: which tokens may stand in it, and what each becomes. A value is a `Value` of Walk.antt over
-- it; `comments` is the state.
pub data TokenRule {A : Type 0} (clear : Kind → List ℕ → Bool) (becomes : Kind → List ℕ → List A) : Bool → List ℕ → List ℕ → List A → Bool → Type 0 where
  token : {comments : Bool} {what : Kind} {t more : List ℕ} → Token comments what t more → T (clear what t)
      → TokenRule clear becomes comments t more (becomes what t) (goes_on comments what)
