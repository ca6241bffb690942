-- A parameter of a field's value: "a token of RFC 2045, `=`, a closed quoted string or a run of token bytes and non-ASCII characters, then
-- white space, fold, comment, `;` or the end".
use Rattle.std.specs.Prelude.{Bool, true, false, not, cond, ◌&&◌, ◌||◌, List, ℕ, suc, ◌+◌, eqb, ltb, leb, length, take, drop, get_or}
use Rattle.lists.specs.Byte.{is_ascii}
use Rattle.lists.specs.Lists.{all}
use Rattle.lists.specs.Run.{run}
use Rattle.comment.specs.Comment.{run_to}
use Rattle.structured_token.specs.declared.Kind.{Kind}
use Rattle.structured_token.specs.declared.Kind.TheVariants.{Comment, Quoted, White, Open, Semicolon, Plain, End}
use Rattle.structured_token.specs.Tokens.{is_quote, kind_of}
use Rattle.mime_parameter.specs.Extended.{is_token_byte}
use Rattle.mime_parameter.specs.Pieces.{value_text, has_room}

-- "a run of token bytes and non-ASCII characters"
abbrev pub is_value_byte : ℕ → Bool
is_value_byte b = is_token_byte b || leb 128 b

-- the length of the closed quoted string at the front of a text, which starts with its quote; 0 where it is not closed. In strings "a backslash
-- escapes any next character".
unfoldable pub closed_len : List ℕ → ℕ
closed_len s = let n = run_to is_quote false (drop 1 s) in cond (ltb (n + 1) (length s)) (n + 2) 0

-- the length of the value at the front of a text; 0 where there is none
unfoldable pub value_len : List ℕ → ℕ
value_len s = cond (is_quote (get_or s 0 0)) (closed_len s) (run is_value_byte s)

-- "then white space, fold, comment, `;` or the end"
abbrev pub ends_value : Kind → Bool
ends_value Comment = true
ends_value Quoted = false
ends_value White = true
ends_value Open = false
ends_value Semicolon = true
ends_value Plain = false
ends_value End = true

-- the length of the parameter at the front of a text; 0 where none starts there. 61 is `=`.
unfoldable pub parameter_len : Bool → List ℕ → ℕ
parameter_len comments s =
    let n = run is_token_byte s in
    let value = drop (n + 1) s in
    let m = value_len value in
    cond (ltb 0 n && eqb (get_or s n 0) 61 && ltb 0 m && ends_value (kind_of comments (drop m value))) (n + 1 + m) 0

-- ---- the name and the value of a parameter

unfoldable pub name_of : List ℕ → List ℕ
name_of parameter = take (run is_token_byte parameter) parameter

-- with its quotes, escapes and folds
unfoldable pub value_of : List ℕ → List ℕ
value_of parameter = drop (run is_token_byte parameter + 1) parameter

-- "each non-ASCII parameter value"
unfoldable pub is_converted : List ℕ → Bool
is_converted parameter = not (all is_ascii (value_of parameter))

-- "a parameter name has `*`": 42
abbrev pub no_star : ℕ → Bool
no_star b = not (eqb b 42)

-- whether a parameter does not hold the field by itself: its name has no `*`, and leaves room for the value where that is converted
unfoldable pub parameter_clear : List ℕ → Bool
parameter_clear parameter =
    all no_star (name_of parameter) && (not (is_converted parameter) || has_room (name_of parameter) (value_text (value_of parameter)))

-- whether a converted parameter stands at the front of a text
unfoldable pub converted_next : Bool → List ℕ → Bool
converted_next comments s = ltb 0 (parameter_len comments s) && is_converted (take (parameter_len comments s) s)
