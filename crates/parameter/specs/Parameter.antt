-- The parameters of a line of an envelope: what stands in a line's tail, after its path.
use Rattle.std.specs.Prelude.{Bool, true, false, not, cond, ◌&&◌, ◌||◌, List, [], ◌∷◌, map, ℕ, suc, ◌+◌, eqb, leb, ltb, length, take, drop, get_or}
use Rattle.lists.specs.Lists.{all, nonempty}
use Rattle.lists.specs.Byte.{within, is_ascii}
use Rattle.lists.specs.Run.{run}
use Rattle.lists.specs.CutBy.{cut_by}
use Rattle.letter_case.specs.LetterCase.{bytes, same_any_case}

abbrev pub not_space : ℕ → Bool
not_space b = not (eqb b 32)

-- how long the parameter at the front of a tail is, with the byte before it: up to the next space or the end
abbrev pub spaced_len : List ℕ → ℕ
spaced_len t = run not_space (drop 1 t) + 1

-- the parameters of a tail, "each after one space"
unfoldable pub params : List ℕ → List (List ℕ)
params t = map (drop 1) (cut_by spaced_len t)

-- a tail with parameters starts with the first one's space
unfoldable pub spaced : List ℕ → Bool
spaced [] = true
spaced (b ∷ s) = eqb b 32

-- "letters, digits, hyphens" (45)
unfoldable pub is_keyword_byte : ℕ → Bool
is_keyword_byte b = within 65 90 b || within 97 122 b || within 48 57 b || eqb b 45

unfoldable pub keyword_len : List ℕ → ℕ
keyword_len p = run is_keyword_byte p

unfoldable pub keyword : List ℕ → List ℕ
keyword p = take (keyword_len p) p

-- something follows the keyword: in a parameter `=` and a value
unfoldable pub has_value : List ℕ → Bool
has_value p = ltb (keyword_len p) (length p)

-- the value, past the keyword and `=`
unfoldable pub value : List ℕ → List ℕ
value p = drop (keyword_len p + 1) p

-- "Keywords compare in any case."
unfoldable pub is_orcpt : List ℕ → Bool
is_orcpt p = same_any_case (bytes "ORCPT") (keyword p)

unfoldable pub is_alt : List ℕ → Bool
is_alt p = same_any_case (bytes "ALT-ADDRESS") (keyword p)

-- "bytes 33 to 126 other than `=`" (61). "Only ORCPT may also hold non-ASCII in its value."
unfoldable pub is_value_byte : Bool → ℕ → Bool
is_value_byte orcpt b = within 33 126 b && not (eqb b 61) || orcpt && leb 128 b

-- "a keyword (letters, digits, hyphens, first not a hyphen), and maybe `=` with a value of one or more bytes .."
unfoldable pub is_param : List ℕ → Bool
is_param p =
    nonempty (keyword p)
    && not (eqb (get_or p 0 0) 45)
    && (not (has_value p) || eqb (get_or p (keyword_len p) 0) 61 && nonempty (value p) && all (is_value_byte (is_orcpt p)) (value p))

-- ---- ALT-ADDRESS

-- the ALT-ADDRESS parameters
unfoldable pub alts : List (List ℕ) → List (List ℕ)
alts [] = []
alts (p ∷ ps) = let more = alts ps in cond (is_alt p) (p ∷ more) more

-- "a second ALT-ADDRESS, an ALT-ADDRESS without a value .. are malformed"
unfoldable pub alts_ok : List (List ℕ) → Bool
alts_ok [] = true
alts_ok (p ∷ []) = has_value p
alts_ok (p ∷ q ∷ ps) = false

-- the first ALT-ADDRESS parameter, empty where there is none
unfoldable pub alt : List (List ℕ) → List ℕ
alt ps = head_or (alts ps)
  where
    head_or : List (List ℕ) → List ℕ
    head_or [] = []
    head_or (p ∷ ps) = p

-- how many bytes stand before the first ALT-ADDRESS parameter's space, each parameter with its space before it
unfoldable pub alt_place : List (List ℕ) → ℕ
alt_place [] = 0
alt_place (p ∷ ps) = let more = alt_place ps in cond (is_alt p) 0 (suc (length p) + more)

-- ---- ORCPT

-- no ORCPT, or one that is ASCII: not "an ORCPT carries non-ASCII"
unfoldable pub orcpt_clean : List ℕ → Bool
orcpt_clean p = not (is_orcpt p) || all is_ascii (value p)
