-- Base64 read by a function: what GrammarLaws.antt proves the grammar of Grammar.antt equal to. No demand cites this file.
use Rattle.std.specs.Prelude.{Bool, cond, ◌&&◌, ◌||◌, List, [], ◌∷◌, ◌++◌, ℕ, ◌+◌, ◌-◌, ◌*◌, ◌/◌, ◌%◌, eqb}
use Rattle.std.proofs.Math.Option.{Option, none, some}
use Rattle.lists.specs.Byte.{within}

-- the sixty-four digits
unfoldable pub is_digit64 : ℕ → Bool
is_digit64 b = within 65 90 b || within 97 122 b || within 48 57 b || eqb b 43 || eqb b 47

-- the value of a digit; of any other byte 63
unfoldable pub value64 : ℕ → ℕ
value64 b = cond (within 65 90 b) (b - 65) (cond (within 97 122 b) (b - 97 + 26) (cond (within 48 57 b) (b - 48 + 52) (cond (eqb b 43) 62 63)))

-- four digits as three bytes
unfoldable pub from_quad : ℕ → ℕ → ℕ → ℕ → Option (List ℕ)
from_quad w x y z =
    cond (is_digit64 w && is_digit64 x && is_digit64 y && is_digit64 z)
    (some ((value64 w * 4 + value64 x / 16) ∷ (value64 x % 16 * 16 + value64 y / 4) ∷ (value64 y % 4 * 64 + value64 z) ∷ []))
    none

-- three digits before one `=`, as two bytes; two digits before two, as one
unfoldable pub from_three : ℕ → ℕ → ℕ → Option (List ℕ)
from_three w x y =
    cond (is_digit64 w && is_digit64 x && is_digit64 y && eqb (value64 y % 4) 0)
    (some ((value64 w * 4 + value64 x / 16) ∷ (value64 x % 16 * 16 + value64 y / 4) ∷ []))
    none

unfoldable pub from_two : ℕ → ℕ → Option (List ℕ)
from_two w x = cond (is_digit64 w && is_digit64 x && eqb (value64 x % 16) 0) (some ((value64 w * 4 + value64 x / 16) ∷ [])) none

-- the last group, which alone may have padding
unfoldable pub from_last : ℕ → ℕ → ℕ → ℕ → Option (List ℕ)
from_last w x y z = cond (eqb z 61) (cond (eqb y 61) (from_two w x) (from_three w x y)) (from_quad w x y z)

-- a group and the groups after it
abbrev pub together : Option (List ℕ) → Option (List ℕ) → Option (List ℕ)
together (some bytes) (some more) = some (bytes ++ more)
together (some bytes) none = none
together none more = none

-- the bytes that base64 stands for, or none
unfoldable pub from_base64 : List ℕ → Option (List ℕ)
from_base64 [] = some []
from_base64 (w ∷ []) = none
from_base64 (w ∷ x ∷ []) = none
from_base64 (w ∷ x ∷ y ∷ []) = none
from_base64 (w ∷ x ∷ y ∷ z ∷ []) = from_last w x y z
from_base64 (w ∷ x ∷ y ∷ z ∷ v ∷ digits) = together (from_quad w x y z) (from_base64 (v ∷ digits))
