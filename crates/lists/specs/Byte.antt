-- Tests of bytes.
use Rattle.std.specs.Prelude.{Bool, ◌&&◌, ℕ, leb, ltb}

-- a byte from lo to hi
abbrev pub within : ℕ → ℕ → ℕ → Bool
within lo hi b = leb lo b && leb b hi

abbrev pub is_byte : ℕ → Bool
is_byte b = ltb b 256

abbrev pub is_ascii : ℕ → Bool
is_ascii b = ltb b 128
