-- The tokens of a structured field's value, with its folds.
use Rattle.std.specs.Prelude.{◌≡◌, Bool, true, false, cond, not, ◌&&◌, ◌||◌, List, [], ◌∷◌, ℕ, suc, ◌+◌, ◌≤◌, ◌<◌, min, eqb, ltb, length, take, drop, get_or}
use Rattle.lists.specs.Byte.{is_ascii}
use Rattle.lists.specs.Run.{run}
use Rattle.comment.specs.Comment.{comment_len, run_to}
use Rattle.structured_token.specs.Walk.{Front}
use Rattle.structured_token.specs.declared.Kind.{Kind}
use Rattle.structured_token.specs.declared.Kind.TheVariants.{Comment, Quoted, White, Open, Semicolon, Plain, End}

-- spaces, TABs and folds: a value holds CR (13) and LF (10) in folds only
abbrev pub is_white : ℕ → Bool
is_white b = eqb b 32 || eqb b 9 || eqb b 13 || eqb b 10

abbrev pub is_quote : ℕ → Bool
is_quote b = eqb b 34

-- a byte of no other token: 40 is `(`, 59 is `;`
abbrev pub is_plain : ℕ → Bool
is_plain b = not (eqb b 32 || eqb b 9 || eqb b 13 || eqb b 10 || eqb b 34 || eqb b 40 || eqb b 59)

-- the quoted string from the quote (34) at the front up to and with the next that is not escaped. "Outside address fields an unclosed
-- string runs to the field's end; in strings there and in all comments a backslash escapes any next character."
unfoldable pub string_len : List ℕ → ℕ
string_len s = min (2 + run_to is_quote false (drop 1 s)) (length s)

-- a parenthesis: a comment where one may start and it is closed
unfoldable pub opened_kind : Bool → List ℕ → Kind
opened_kind comments s = cond (comments && ltb 0 (comment_len s)) Comment Open

-- what stands at the front of a text, where a comment may start or not. "No comment starts inside a quoted string."
unfoldable pub kind_of : Bool → List ℕ → Kind
kind_of comments [] = End
kind_of comments (b ∷ s) = cond (is_plain b) Plain (cond (is_white b) White (cond (is_quote b) Quoted (cond (eqb b 59) Semicolon (opened_kind comments (b ∷ s)))))

-- and how long it is
unfoldable pub size_of : Kind → List ℕ → ℕ
size_of Comment s = comment_len s
size_of Quoted s = string_len s
size_of White s = run is_white s
size_of Open s = 1
size_of Semicolon s = 1
size_of Plain s = run is_plain s
size_of End s = 0

-- of an unclosed parenthesis "nothing after it is a comment"
abbrev pub goes_on : Bool → Kind → Bool
goes_on comments Comment = comments
goes_on comments Quoted = comments
goes_on comments White = comments
goes_on comments Open = false
goes_on comments Semicolon = comments
goes_on comments Plain = comments
goes_on comments End = comments

-- a field that is read token by token: which tokens may stand in it, and what each becomes
abbrev pub token_front : {A : Type 0} → (Kind → List ℕ → Bool) → (Kind → List ℕ → List A) → Bool → List ℕ → Front Bool A
token_front clear becomes comments s =
    let what = kind_of comments s in
    let n = size_of what s in
    record { size = n; clear = clear what (take n s); becomes = becomes what (take n s); next = goes_on comments what }

-- ---- bytes that are passed over together

-- an ASCII byte of a plain run, or `;`
abbrev pub is_plain_ascii : ℕ → Bool
is_plain_ascii b = not (eqb b 32 || eqb b 9 || eqb b 13 || eqb b 10 || eqb b 34 || eqb b 40) && is_ascii b

-- a byte that neither goes on with white space nor starts a word that begins with f (102) or F (70), as the for of Received fields
abbrev pub ends_space : ℕ → Bool
ends_space b = not (eqb b 32 || eqb b 9 || eqb b 13 || eqb b 10 || eqb b 102 || eqb b 70)

-- a byte that stays as it came, whatever stands before it
unfoldable pub is_calm : ℕ → ℕ → Bool
is_calm b next = is_plain_ascii b || (eqb b 32 && ends_space next)

-- how many such bytes stand at the front
unfoldable pub calm_len : List ℕ → ℕ
calm_len [] = 0
calm_len (b ∷ s) = cond (is_calm b (get_or s 0 0)) (suc (calm_len s)) 0

abbrev pub comment_kind : Kind → Bool
comment_kind Comment = true
comment_kind Quoted = false
comment_kind White = false
comment_kind Open = false
comment_kind Semicolon = false
comment_kind Plain = false
comment_kind End = false

abbrev pub open_kind : Kind → Bool
open_kind Comment = false
open_kind Quoted = false
open_kind White = false
open_kind Open = true
open_kind Semicolon = false
open_kind Plain = false
open_kind End = false

abbrev pub white_kind : Kind → Bool
white_kind Comment = false
white_kind Quoted = false
white_kind White = true
white_kind Open = false
white_kind Semicolon = false
white_kind Plain = false
white_kind End = false

-- The answer for a place of a value: what stands there, and where it ends. A token has a byte, and lies in the value.
pub record Took (comments : Bool) (value : List ℕ) (at : ℕ) (kind : Kind) (end : ℕ) : Type 0 where
  pub what : kind ≡ kind_of comments (drop at value)
  pub is : end ≡ at + size_of kind (drop at value)
  pub some : at < length value → at < end
  pub within : at < length value → end ≤ length value
