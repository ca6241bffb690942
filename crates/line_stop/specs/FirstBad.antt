-- The first byte at which a text stops being a beginning of any line. Nothing here knows how it is found.
use Rattle.std.specs.Prelude.{◌≡◌, List, [], ◌∷◌, ◌++◌, ℕ, suc, ◌+◌, ◌≤◌, ◌<◌, length, take}

-- p is "a beginning of any" text of L
abbrev pub Beginning : (List ℕ → Type 0) → List ℕ → Type 0
Beginning L p = (rest : List ℕ) × L (p ++ rest)

-- n is "the first byte at which .. the line .. stops being a beginning of any well-formed line .. If no byte does that, it is the
-- line's end."
pub record FirstBad (L : List ℕ → Type 0) (s : List ℕ) (n : ℕ) : Type 0 where
  pub inside : n ≤ length s
  pub good : (i : ℕ) → i < n → Beginning L (take (suc i) s)
  pub bad : n < length s → Beginning L (take (suc n) s) → ⊥

-- "the line, its CRLF with it": a text that is formed so, then CR (13) and LF (10)
pub record WithCrlf (Formed : List ℕ → Type 0) (l : List ℕ) : Type 0 where
  pub text : List ℕ
  pub ends : l ≡ text ++ (13 ∷ 10 ∷ [])
  pub formed : Formed text

-- What follows `start` does not start with a line that is formed so: that line is malformed, and the offset is the byte that tells it.
pub record MalformedAt (Formed : List ℕ → Type 0) (start rest : List ℕ) (offset : ℕ) : Type 0 where
  pub malformed : (line more : List ℕ) → WithCrlf Formed line → rest ≡ line ++ more → ⊥
  pub byte : ℕ
  pub first : FirstBad (WithCrlf Formed) rest byte
  pub offset_is : offset ≡ length start + byte
