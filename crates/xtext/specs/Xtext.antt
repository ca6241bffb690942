-- xtext (RFC 3461): "xtext is bytes 33 to 126 other than `+` and `=`, or `+` with two uppercase hex digits."
use Rattle.std.specs.Prelude.{Bool, true, false, not, cond, ◌&&◌, List, [], ◌∷◌, ℕ, zero, suc, pred, ◌+◌, ◌*◌, eqb, leb, ltb, length, get_or}
use Rattle.lists.specs.Byte.{within}
use Rattle.hex_digit.specs.Hex.{is_hex_digit, hex_value}
use Rattle.address.specs.Address.{is_ascii_address}

-- xchar: a byte 33 to 126 other than `+` (43) and `=` (61), which stands for itself
unfoldable pub is_xchar : ℕ → Bool
is_xchar b = within 33 126 b && not (eqb b 43) && not (eqb b 61)

-- hexchar: `+` with two uppercase hex digits, at the front of a text
unfoldable pub is_hexchar : List ℕ → Bool
is_hexchar s = eqb (get_or s 0 0) 43 && is_hex_digit (get_or s 1 0) && is_hex_digit (get_or s 2 0)

-- the length of the xchar or hexchar at the front of a text, and the byte that it stands for; 0 where there is none
unfoldable pub unit_len : List ℕ → ℕ
unit_len s = cond (is_xchar (get_or s 0 0)) 1 (cond (is_hexchar s) 3 0)

unfoldable pub unit_byte : List ℕ → ℕ
unit_byte s = cond (is_xchar (get_or s 0 0)) (get_or s 0 0) (cond (is_hexchar s) (hex_value (get_or s 1 0) * 16 + hex_value (get_or s 2 0)) 0)

-- The bytes that the xchars and hexchars at the front of a text stand for, up to the end or to the first place with neither; and
-- whether they are the whole text.
pub record Decoding : Type 0 where
  pub bytes : List ℕ
  pub whole : Bool

abbrev pub byte_before : ℕ → Decoding → Decoding
byte_before b d = record { bytes = b ∷ d.bytes; whole = d.whole }

-- after k bytes that belong to a hexchar before
unfoldable pub decoding_after : ℕ → List ℕ → Decoding
decoding_after k [] = record { bytes = []; whole = true }
decoding_after (suc k) (b ∷ s) = decoding_after k s
decoding_after zero (b ∷ s) =
    let n = unit_len (b ∷ s) in
    cond (ltb 0 n) (byte_before (unit_byte (b ∷ s)) (decoding_after (pred n) s)) (record { bytes = []; whole = false })

unfoldable pub decoding : List ℕ → Decoding
decoding s = decoding_after 0 s

-- xchars and hexchars, and nothing else
unfoldable pub is_xtext : List ℕ → Bool
is_xtext s = (decoding s).whole

-- what a text decodes to: of xtext all bytes, of another text those up to its fault
unfoldable pub decoded : List ℕ → List ℕ
decoded s = (decoding s).bytes

-- "xtext of an ASCII address": the decoded bytes are the address. An envelope line has at most 998 bytes, so that a longer value is
-- none.
unfoldable pub is_alt_address : List ℕ → Bool
is_alt_address s = leb (length s) 998 && is_xtext s && is_ascii_address (decoded s)
