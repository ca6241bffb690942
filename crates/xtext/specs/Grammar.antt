-- The grammar of xtext, as rules that make texts with the bytes that they stand for. GrammarLaws.antt proves that `decoded` is these.
use Rattle.std.specs.Prelude.{List, [], ◌∷◌, ℕ, ◌+◌, ◌*◌, T}
use Rattle.lists.specs.Lists.{all}
use Rattle.lists.specs.Byte.{is_ascii}
use Rattle.address.specs.Grammar.{Address}
use Rattle.hex_digit.specs.Hex.{is_hex_digit, hex_value}
use Rattle.xtext.specs.Xtext.{is_xchar}

-- "xtext is bytes 33 to 126 other than `+` and `=`, or `+` with two uppercase hex digits." `+` is 43.
pub data Xtext : List ℕ → List ℕ → Type 0 where
  end : Xtext [] []
  xchar : {b : ℕ} {more bytes : List ℕ} → T (is_xchar b) → Xtext more bytes → Xtext (b ∷ more) (b ∷ bytes)
  hexchar : {high low : ℕ} {more bytes : List ℕ} → T (is_hex_digit high) → T (is_hex_digit low) → Xtext more bytes
      → Xtext (43 ∷ high ∷ low ∷ more) ((hex_value high * 16 + hex_value low) ∷ bytes)

-- "xtext of an ASCII address": the text, and the address that it stands for
abbrev pub AltAddress : List ℕ → List ℕ → Type 0
AltAddress v address = Xtext v address × Address address × T (all is_ascii address)
