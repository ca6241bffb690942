-- Laws of xtext: by position in a text, as code decodes it.
use Rattle.std.specs.Prelude.{◌≡◌, List, ℕ, ◌+◌, ◌≤◌, ◌<◌, drop, Option, Some, None, Result, Ok, Err}
use Rattle.std.proofs.Math.ListN.{length}
use Rattle.xtext.specs.declared.EncodedByte.{EncodedByte}
use Rattle.xtext.specs.Xtext.{unit_len, unit_byte}

-- ---- a unit: an xchar or a hexchar

-- What code finds at i: a unit of n bytes that stands for b, or none, and then n is 0.
pub record UnitAt (s : List ℕ) (i n b : ℕ) : Type 0 where
  pub size : n ≡ unit_len (drop i s)
  pub byte : b ≡ unit_byte (drop i s)
  pub fits : i + n ≤ length s

-- the same of what code answers
abbrev pub UnitFound : List ℕ → ℕ → Option EncodedByte → Type 0
UnitFound s i None = UnitAt s i 0 0
UnitFound s i (Some unit) = UnitAt s i unit.size unit.byte × (0 < unit.size)

-- how many bytes were decoded
abbrev pub size_of : Result ℕ ℕ → ℕ
size_of (Ok n) = n
size_of (Err n) = n
