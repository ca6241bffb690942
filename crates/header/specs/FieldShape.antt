-- What a field of a well-formed header is made of.
use Rattle.std.specs.Prelude.{◌≡◌, Bool, cond, ◌&&◌, ◌||◌, List, [], ◌∷◌, ◌++◌, ℕ, T, eqb, get_or}
use Rattle.lists.specs.Lists.{all}
use Rattle.lists.specs.Byte.{within}
use Rattle.utf8.specs.Utf8.{utf8}
use Rattle.header_line.specs.Lines.{line_byte, name_len}
use Rattle.line.specs.Line.{blank}
use Rattle.header.specs.Fields.{name_of, value_of}

-- a line, or what follows the colon of a name line
unfoldable pub piece : List ℕ → Bool
piece line = all line_byte line && utf8 line

-- a continuation
unfoldable pub continued : List ℕ → Bool
continued line = piece line && blank (get_or line 0 0)

-- a piece, then continuations, with CRLF before each
unfoldable pub folded : List ℕ → List (List ℕ) → List ℕ
folded line [] = line
folded line (next ∷ more) = line ++ (13 ∷ 10 ∷ folded next more)

-- a field: a name, a colon, what follows it on the name line, continuations, and the CRLF that ends the field
pub record Shaped (field : List ℕ) : Type 0 where
  pub name : T (within 1 76 (name_len field))
  pub parts : field ≡ name_of field ++ (58 ∷ (value_of field ++ (13 ∷ 10 ∷ [])))
  pub line : List ℕ
  pub more : List (List ℕ)
  pub value : value_of field ≡ folded line more
  pub line_is : T (piece line)
  pub more_are : T (all continued more)

-- what holds of each of these fields
abbrev pub Each : (List ℕ → Type 0) → List (List ℕ) → Type 0
Each P [] = Unit {0}
Each P (field ∷ fields) = P field × Each P fields

-- every CR and LF removed
unfoldable pub without_breaks : List ℕ → List ℕ
without_breaks [] = []
without_breaks (b ∷ rest) = cond (eqb b 13 || eqb b 10) (without_breaks rest) (b ∷ without_breaks rest)
