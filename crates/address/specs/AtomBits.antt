-- Atom bytes by one bit of a number of 64 bits.
use Rattle.std.specs.Prelude.{◌≡◌, Bool, cond, ◌||◌, ℕ, ◌<◌, ◌/◌, ◌%◌, ◌^◌, ltb, eqb, leb}
use Rattle.lists.specs.ByteLaws.{agree}
use Rattle.address.specs.Address.{is_atext, is_atom_byte}

-- the 64 bytes below 64 and the 64 from there on; the bit of a byte is set where it is atext
unfoldable pub bits_of : ℕ → ℕ
bits_of b = cond (ltb b 64) 11817354136985272320 9223372035915251710

unfoldable pub by_bits : ℕ → Bool
by_bits b = eqb (bits_of b / 2 ^ (b % 64) % 2) 1 || leb 128 b

pub by_bits_lem : (b : ℕ) → b < 256 → by_bits b ≡ is_atom_byte b
unfolding by_bits bits_of is_atom_byte is_atext
by_bits_lem b h = agree by_bits is_atom_byte 256 tt b h
