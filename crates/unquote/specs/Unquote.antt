-- Text without quoting and escapes.
use Rattle.std.specs.Prelude.{Bool, false, cond, ◌&&◌, ◌||◌, not, List, [], ◌∷◌, ◌++◌, ℕ, eqb}

-- whether the byte after b is escaped: a backslash (92) escapes it that is not escaped itself
abbrev pub escapes : Bool → ℕ → Bool
escapes escaped b = not escaped && eqb b 92

-- the bytes of a text that stay, by a test of each byte and whether it is escaped
unfoldable pub kept_from : (Bool → ℕ → Bool) → Bool → List ℕ → List ℕ
kept_from stays escaped [] = []
kept_from stays escaped (b ∷ text) = cond (stays escaped b) (b ∷ []) [] ++ kept_from stays (escapes escaped b) text

-- a quote (34) or a backslash goes, unless it is escaped
abbrev pub stays_unquoted : Bool → ℕ → Bool
stays_unquoted escaped b = escaped || not (eqb b 34 || eqb b 92)

-- a text "without quoting and escapes"; neither quotes nor backslashes stand in a word that is no quoted string
unfoldable pub unquoted : List ℕ → List ℕ
unquoted text = kept_from stays_unquoted false text
