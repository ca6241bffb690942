-- Hex digits in upper case, as encoded words are written and xtext is read. RFC 2047, section 4.2: "Upper case should be used for
-- hexadecimal digits "A" through "F"." RFC 3461, section 4: hexchar is `+` "immediately followed by two upper case hexadecimal
-- digits".
use Rattle.std.specs.Prelude.{Bool, cond, ◌||◌, ℕ, ◌+◌, ◌-◌, ltb}
use Rattle.lists.specs.Byte.{within}

-- a value 0 to 15, written: 0 to 9 as `0` (48) to `9`, 10 to 15 as `A` (65) to `F`
unfoldable pub hex_digit : ℕ → ℕ
hex_digit v = cond (ltb v 10) (v + 48) (v - 10 + 65)

-- the sixteen digits: `0` (48) to `9` (57) and `A` (65) to `F` (70)
unfoldable pub is_hex_digit : ℕ → Bool
is_hex_digit b = within 48 57 b || within 65 70 b

-- a digit, read: `0` to `9` as 0 to 9, `A` to `F` as 10 to 15; any other byte as 16, which is the value of no digit
unfoldable pub hex_value : ℕ → ℕ
hex_value b = cond (within 48 57 b) (b - 48) (cond (within 65 70 b) (b - 65 + 10) 16)
