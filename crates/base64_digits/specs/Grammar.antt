-- Base64 read, as a grammar: what stands there, and the bytes that it stands for. Groups of four digits, `=` only as padding at the end, spare
-- bits zero; anything else is no base64. GrammarLaws.antt proves that it is what Base64.antt writes, and nothing else.
use Rattle.std.specs.Prelude.{◌≡◌, List, [], ◌∷◌, ℕ, ◌+◌, ◌*◌, ◌/◌, ◌%◌, ◌<◌}
use Rattle.base64_digits.specs.Base64.{digit64}

-- RFC 4648, section 4: "24-bit groups of input bits as output strings of 4 encoded characters". Each digit is that of a value 0 to 63, 6 bits.
pub data FromBase64 : List ℕ → List ℕ → Type 0 where
  nothing : FromBase64 [] []
  four : {a b c d : ℕ} {standing bytes : List ℕ} → a < 64 → b < 64 → c < 64 → d < 64 → FromBase64 standing bytes
      → FromBase64 (digit64 a ∷ digit64 b ∷ digit64 c ∷ digit64 d ∷ standing) ((a * 4 + b / 16) ∷ (b % 16 * 16 + c / 4) ∷ (c % 4 * 64 + d) ∷ bytes)
  -- At the end, "three characters followed by one "=" padding character", or two followed by two; 61 is `=`. The bits left over are zero.
  three : {a b c : ℕ} → a < 64 → b < 64 → c < 64 → c % 4 ≡ 0
      → FromBase64 (digit64 a ∷ digit64 b ∷ digit64 c ∷ 61 ∷ []) ((a * 4 + b / 16) ∷ (b % 16 * 16 + c / 4) ∷ [])
  two : {a b : ℕ} → a < 64 → b < 64 → b % 16 ≡ 0 → FromBase64 (digit64 a ∷ digit64 b ∷ 61 ∷ 61 ∷ []) ((a * 4 + b / 16) ∷ [])
