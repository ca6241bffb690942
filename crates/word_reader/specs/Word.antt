-- Encoded words read by a function: what code is checked against. reader_grammar proves it equal to a grammar.
use Rattle.std.specs.Prelude.{Bool, true, false, not, cond, ◌&&◌, ◌||◌, List, [], ◌∷◌, ◌++◌, ℕ, ◌+◌, ◌-◌, ◌*◌, ◌/◌, ◌%◌, leb, eqb, length, take, drop, get_or}
use Rattle.lists.specs.Byte.{within}
use Rattle.lists.specs.Lists.{all}
use Rattle.lists.specs.Run.{run}
use Rattle.letter_case.specs.LetterCase.{bytes, lower, same_any_case}
use Rattle.base64_digits.specs.Reading.{is_digit64, value64}
use Rattle.word_reader.specs.Each.{each}

-- ---- Q: `=` (61) begins a unit of three bytes, any other byte is one

unfoldable pub unit_size : List ℕ → ℕ
unit_size s = cond (eqb (get_or s 0 0) 61) 3 1

-- a hex digit in any case, and its value; of any other byte 0
unfoldable pub is_any_hex : ℕ → Bool
is_any_hex b = within 48 57 b || within 65 70 b || within 97 102 b

unfoldable pub any_hex : ℕ → ℕ
any_hex b = cond (within 48 57 b) (b - 48) (cond (within 65 70 b) (b - 55) (cond (within 97 102 b) (b - 87) 0))

-- the byte that the unit at the front adds: `_` (95) adds the space
unfoldable pub unit_byte : List ℕ → ℕ
unit_byte s = cond (eqb (get_or s 0 0) 61) (any_hex (get_or s 1 0) * 16 + any_hex (get_or s 2 0)) (cond (eqb (get_or s 0 0) 95) 32 (get_or s 0 0))

-- whether it is no fault; 63 is `?`
unfoldable pub unit_ok : List ℕ → Bool
unit_ok s = cond (eqb (get_or s 0 0) 61) (is_any_hex (get_or s 1 0) && is_any_hex (get_or s 2 0)) (within 33 126 (get_or s 0 0) && not (eqb (get_or s 0 0) 63))

unfoldable pub q_text : List ℕ → List ℕ
q_text s = each unit_size unit_byte s

unfoldable pub q_ok : List ℕ → Bool
q_ok s = all (λ (ok : Bool). ok) (each unit_size unit_ok s)

-- ---- B: groups of four digits

-- three bytes of four digits, two of three, one of two; 61 is `=`
unfoldable pub first_of : ℕ → ℕ → ℕ
first_of w x = value64 w * 4 + value64 x / 16

unfoldable pub second_of : ℕ → ℕ → ℕ
second_of x y = value64 x % 16 * 16 + value64 y / 4

unfoldable pub third_of : ℕ → ℕ → ℕ
third_of y z = value64 y % 4 * 64 + value64 z

unfoldable pub quad_ok : ℕ → ℕ → ℕ → ℕ → Bool
quad_ok w x y z = is_digit64 w && is_digit64 x && is_digit64 y && is_digit64 z

unfoldable pub last_ok : ℕ → ℕ → ℕ → ℕ → Bool
last_ok w x y z =
    cond (eqb z 61)
    (cond (eqb y 61) (is_digit64 w && is_digit64 x && eqb (value64 x % 16) 0) (is_digit64 w && is_digit64 x && is_digit64 y && eqb (value64 y % 4) 0))
    (quad_ok w x y z)

unfoldable pub last_text : ℕ → ℕ → ℕ → ℕ → List ℕ
last_text w x y z =
    cond (eqb z 61) (cond (eqb y 61) (first_of w x ∷ []) (first_of w x ∷ second_of x y ∷ [])) (first_of w x ∷ second_of x y ∷ third_of y z ∷ [])

unfoldable pub b_ok : List ℕ → Bool
b_ok [] = true
b_ok (w ∷ []) = false
b_ok (w ∷ x ∷ []) = false
b_ok (w ∷ x ∷ y ∷ []) = false
b_ok (w ∷ x ∷ y ∷ z ∷ []) = last_ok w x y z
b_ok (w ∷ x ∷ y ∷ z ∷ v ∷ s) = quad_ok w x y z && b_ok (v ∷ s)

unfoldable pub b_text : List ℕ → List ℕ
b_text [] = []
b_text (w ∷ []) = []
b_text (w ∷ x ∷ []) = []
b_text (w ∷ x ∷ y ∷ []) = []
b_text (w ∷ x ∷ y ∷ z ∷ []) = last_text w x y z
b_text (w ∷ x ∷ y ∷ z ∷ v ∷ s) = first_of w x ∷ second_of x y ∷ third_of y z ∷ b_text (v ∷ s)

-- ---- a word

-- "A word is a run of 4 bytes or more .. from `=?` to `?=`"
unfoldable pub is_word : List ℕ → Bool
is_word w =
    leb 4 (length w) && eqb (get_or w 0 0) 61 && eqb (get_or w 1 0) 63 && eqb (get_or w (length w - 2) 0) 63 && eqb (get_or w (length w - 1) 0) 61

-- what stands between them
unfoldable pub inner : List ℕ → List ℕ
inner w = take (length w - 2 - 2) (drop 2 w)

abbrev pub not_question : ℕ → Bool
not_question b = not (eqb b 63)

-- inside: the charset up to the first `?`, a letter, `?`, and the text
unfoldable pub charset_len : List ℕ → ℕ
charset_len s = run not_question s

unfoldable pub is_parted : List ℕ → Bool
is_parted s = eqb (get_or s (charset_len s) 0) 63 && eqb (get_or s (charset_len s + 2) 0) 63

unfoldable pub letter : List ℕ → ℕ
letter s = lower (get_or s (charset_len s + 1) 0)

unfoldable pub standing : List ℕ → List ℕ
standing s = drop (charset_len s + 3) s

-- 113 is `q`, 98 is `b`
unfoldable pub text_ok : ℕ → List ℕ → Bool
text_ok l s = cond (eqb l 113) (q_ok s) (cond (eqb l 98) (b_ok s) false)

unfoldable pub text_of : ℕ → List ℕ → List ℕ
text_of l s = cond (eqb l 113) (q_text s) (cond (eqb l 98) (b_text s) [])

unfoldable pub is_utf8_charset : List ℕ → Bool
is_utf8_charset s = same_any_case (take (charset_len s) s) (bytes "UTF-8")

-- the bytes that a word adds
unfoldable pub added : List ℕ → List ℕ
added w = let s = inner w in cond (is_parted s) (text_of (letter s) (standing s)) []

-- 2 or 3, or 0 where neither holds
unfoldable pub form_number : List ℕ → ℕ
form_number w = let s = inner w in cond (is_parted s && text_ok (letter s) (standing s)) (cond (is_utf8_charset s) 0 3) 2
