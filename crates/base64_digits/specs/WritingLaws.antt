-- Base64 as code writes it: the table of its digits, and the digits of a text from a place on.
use Rattle.std.specs.Prelude.{List, [], ◌∷◌, ℕ, zero, suc, ◌+◌, ◌*◌}
use Rattle.base64_digits.specs.Base64.{digit64}

-- ---- a digit

-- the digits of n values, from k on
abbrev pub digits_from : ℕ → ℕ → List ℕ
digits_from k zero = []
digits_from k (suc n) = digit64 k ∷ digits_from (suc k) n

-- the table of the digits
unfoldable pub digits64 : List ℕ
digits64 = digits_from 0 64

-- ---- the bits of a group

abbrev pub bits_of : ℕ → ℕ → ℕ → ℕ
bits_of a b c = a * 65536 + b * 256 + c
