-- The tokens of a Received field's value: those of other structured fields, and each for with the white space before it. Every byte of the
-- value is in one token.
use Rattle.std.specs.Prelude.{◌≡◌, Bool, false, cond, ◌&&◌, ◌||◌, List, ℕ, ◌+◌, ◌≤◌, ◌<◌, eqb, length, drop, get_or}
use Rattle.structured_token.specs.declared.Kind.{Kind}
use Rattle.structured_token.specs.declared.Kind.TheVariants as token
use Rattle.structured_token.specs.Tokens.{is_white, kind_of, size_of}
use Rattle.received_token.specs.Clause.{white_len, is_for, clause_len}
use Rattle.received_token.specs.declared.ReceivedKind.{ReceivedKind}
use Rattle.received_token.specs.declared.ReceivedKind.TheVariants.{Comment, Clause, BareFor, Open, Other}

-- whether a for stands at the front with the white space before it, at the start of the value or later: "white space or the colon before",
-- which stands before the start only
unfoldable pub starts_for : Bool → List ℕ → Bool
starts_for start s = (is_white (get_or s 0 0) || start) && is_for (drop (white_len s) s)

-- a token of other structured fields
abbrev pub kind_in : Kind → ReceivedKind
kind_in token.Comment = Comment
kind_in token.Quoted = Other
kind_in token.White = Other
kind_in token.Open = Open
kind_in token.Semicolon = Other
kind_in token.Plain = Other
kind_in token.End = Other

-- what stands at the front of a text, at the start of the value or later, where a comment may start or not: a for is a clause where an
-- address follows it
unfoldable pub received_kind : Bool → Bool → List ℕ → ReceivedKind
received_kind start comments s = cond (starts_for start s) (cond (eqb (clause_len s) 0) BareFor Clause) (kind_in (kind_of comments s))

-- and how long it is: a for without an address has the white space before it, the word and the byte after it
unfoldable pub received_size : Bool → Bool → List ℕ → ℕ
received_size start comments s = cond (starts_for start s) (cond (eqb (clause_len s) 0) (white_len s + 4) (clause_len s)) (size_of (kind_of comments s) s)

-- of an unclosed parenthesis "nothing after it is a comment"
abbrev pub goes_on : Bool → ReceivedKind → Bool
goes_on comments Comment = comments
goes_on comments Clause = comments
goes_on comments BareFor = comments
goes_on comments Open = false
goes_on comments Other = comments

-- The answer for a place of a value: what stands there, and where it ends. A token has a byte, and lies in the value.
pub record Took (comments : Bool) (value : List ℕ) (at : ℕ) (kind : ReceivedKind) (end : ℕ) : Type 0 where
  pub what : kind ≡ received_kind (eqb at 0) comments (drop at value)
  pub is : end ≡ at + received_size (eqb at 0) comments (drop at value)
  pub some : at < length value → at < end
  pub within : at < length value → end ≤ length value
