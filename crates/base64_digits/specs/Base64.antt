-- Bytes in base64 with its padding, by RFC 4648, section 4. RFC 2047, section 4.1: "The "B" encoding is identical to the "BASE64" encoding
-- defined by RFC 2045."
use Rattle.std.specs.Prelude.{cond, List, [], ◌∷◌, ℕ, ◌+◌, ◌-◌, ◌*◌, ◌/◌, ◌%◌, ltb, eqb}

-- a value 0 to 63: 0 to 25 as `A` (65) to `Z`, 26 to 51 as `a` (97) to `z`, 52 to 61 as `0` (48) to `9`, 62 as `+` (43), 63 as `/` (47)
unfoldable pub digit64 : ℕ → ℕ
digit64 v = cond (ltb v 26) (v + 65) (cond (ltb v 52) (v - 26 + 97) (cond (ltb v 62) (v - 52 + 48) (cond (eqb v 62) 43 47)))

-- Bytes in base64, "with the usual padding": the 24 bits of each three bytes as four digits of 6; the bits of the last two bytes, or of the last
-- one, with zero bits up to a digit, and `=` (61) up to four.
unfoldable pub in_base64 : List ℕ → List ℕ
in_base64 [] = []
in_base64 (a ∷ []) = digit64 (a / 4) ∷ digit64 (a % 4 * 16) ∷ 61 ∷ 61 ∷ []
in_base64 (a ∷ b ∷ []) = digit64 (a / 4) ∷ digit64 (a % 4 * 16 + b / 16) ∷ digit64 (b % 16 * 4) ∷ 61 ∷ []
in_base64 (a ∷ b ∷ c ∷ bytes) = digit64 (a / 4) ∷ digit64 (a % 4 * 16 + b / 16) ∷ digit64 (b % 16 * 4 + c / 64) ∷ digit64 (c % 64) ∷ in_base64 bytes

-- how long n bytes are: 4 for each 3 bytes begun
abbrev pub base64_length : ℕ → ℕ
base64_length n = 4 * ((n + 2) / 3)
