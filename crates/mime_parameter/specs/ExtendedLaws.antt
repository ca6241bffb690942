-- Laws of extended values: how long they are, that they are ASCII, that they read back.
use Rattle.std.specs.Prelude.{◌≡◌, refl, Bool, true, false, not, ◌&&◌, ◌||◌, List, [], ◌∷◌, ◌++◌, ℕ, ◌+◌, ◌*◌, ◌/◌, ◌%◌, ◌≤◌, ◌<◌, T, eqb, length, drop, get_or}
use Rattle.std.proofs.Common.{sym, ap, ◌∙◌, append_assoc, div-add-mod', add-one, arith, eqb→eq, ltb→lt, lt→ltb, lit≤, length-append, drop_of_length-le, drop-cons}
use Rattle.std.proofs.Math.Option.{Option, none, some}
use Rattle.std.proofs.Math.Facts.{and_yes, yes_and}
use Rattle.lists.specs.Byte.{is_byte, is_ascii, within}
use Rattle.lists.specs.ByteLaws.{below, within_high}
use Rattle.lists.specs.Lists.{all}
use Rattle.lists.specs.ListsLaws.{by_test, cond_yes, cond_no, all_append}
use Rattle.hex_digit.specs.Hex.{hex_digit}
use Rattle.row.specs.Layout.{any_case_value}
use Rattle.mime_parameter.specs.Extended.{is_token_byte, is_attribute_char, octet, extended_byte, extended}
use Rattle.mime_parameter.specs.Parameter2231.{Octets}

-- ---- a byte

pub byte_bare : (b : ℕ) → T (is_attribute_char b) → extended_byte b ≡ b ∷ []
unfolding extended_byte
byte_bare b t = cond_yes (is_attribute_char b) _ _ t

pub byte_octet : (b : ℕ) → T (not (is_attribute_char b)) → extended_byte b ≡ octet b
unfolding extended_byte
byte_octet b t = cond_no (is_attribute_char b) _ _ t

by_byte : (P : List ℕ → Type 0) (b : ℕ) → P (b ∷ []) → P (octet b) → P (extended_byte b)
by_byte P b x y = by_test (is_attribute_char b) (λ t. rw (byte_bare b t) x) (λ t. rw (byte_octet b t) y)

length_byte : (b : ℕ) → (0 < length (extended_byte b)) × (length (extended_byte b) ≤ 3)
length_byte b = by_byte (λ l. (0 < length l) × (length l ≤ 3)) b (lit≤ tt, lit≤ tt) (lit≤ tt, lit≤ tt)

attribute_ascii : (b : ℕ) → T (is_attribute_char b) → T (is_ascii b)
unfolding is_attribute_char is_token_byte
attribute_ascii b t =
    let token = (and_yes (is_token_byte b) (not (eqb b 42 || eqb b 39 || eqb b 37)) t).0 in
    let range = (and_yes (within 33 126 b) (not (within 40 41 b || within 58 64 b || within 91 93 b || eqb b 34 || eqb b 44 || eqb b 47)) token).0 in
    lt→ltb b 128 (omega (arith, within_high 33 126 b range))

-- a hex digit that we write
digit_ascii : (v : ℕ) → v < 16 → T (is_ascii (hex_digit v))
unfolding hex_digit
digit_ascii v h = below (λ k. is_ascii (hex_digit k)) 16 tt v h

byte_ascii : (b : ℕ) → b < 256 → T (all is_ascii (extended_byte b))
byte_ascii b h =
    by_test (is_attribute_char b)
    (λ t. rw (byte_bare b t) (yes_and (is_ascii b) true (attribute_ascii b t) tt))
    (λ t.
    rw (byte_octet b t)
    (yes_and (is_ascii (hex_digit (b / 16))) (is_ascii (hex_digit (b % 16)) && true) (digit_ascii (b / 16) (omega arith))
    (yes_and (is_ascii (hex_digit (b % 16))) true (digit_ascii (b % 16) (omega arith)) tt)))

-- ---- bytes

pub extended_append : (a b : List ℕ) → extended (a ++ b) ≡ extended a ++ extended b
unfolding extended
extended_append [] b = refl
extended_append (x ∷ a) b = rw (extended_append a b) (sym (append_assoc (extended_byte x) (extended a) (extended b)))

pub length_extended_append : (a b : List ℕ) → length (extended (a ++ b)) ≡ length (extended a) + length (extended b)
length_extended_append a b = ap length (extended_append a b) ∙ length-append (extended a) (extended b)

pub length_extended : (l : List ℕ) → (length l ≤ length (extended l)) × (length (extended l) ≤ 3 * length l)
unfolding extended
length_extended [] = (omega arith, omega arith)
length_extended (b ∷ l) =
    let size = length-append (extended_byte b) (extended l) in
    (omega (arith, size, (length_byte b).0, (length_extended l).0), omega (arith, size, (length_byte b).1, (length_extended l).1))

pub extended_ascii : (l : List ℕ) → T (all is_byte l) → T (all is_ascii (extended l))
unfolding extended
extended_ascii [] h = tt
extended_ascii (b ∷ l) h =
    let both = and_yes (is_byte b) (all is_byte l) h in
    all_append is_ascii (extended_byte b) (extended l) (byte_ascii b (ltb→lt b 256 both.0)) (extended_ascii l both.1)

-- from a place on
pub extended_at : (s : List ℕ) (j : ℕ) → j < length s → extended (drop j s) ≡ extended_byte (get_or s j 0) ++ extended (drop (j + 1) s)
unfolding extended
extended_at s j h = rw (add-one j, drop-cons s j 0 h) refl

pub extended_end : (s : List ℕ) (j : ℕ) → length s ≤ j → extended (drop j s) ≡ []
unfolding extended
extended_end s j h = rw (drop_of_length-le s {i = j} h) refl

-- ---- reading back

is_value : Option ℕ → ℕ → Bool
is_value none n = false
is_value (some m) n = eqb m n

is_value_lem : (o : Option ℕ) (n : ℕ) → T (is_value o n) → o ≡ some n
unfolding is_value
is_value_lem none n t = absurd t
is_value_lem (some m) n t = ap some (eqb→eq m n t)

digit_back : (d : ℕ) → d < 16 → any_case_value (hex_digit d) ≡ some d
unfolding is_value any_case_value hex_digit
digit_back d h = is_value_lem _ d (below (λ k. is_value (any_case_value (hex_digit k)) k) 16 tt d h)

byte_reads : (b : ℕ) {s t : List ℕ} → b < 256 → Octets s t → Octets (extended_byte b ++ s) (b ∷ t)
byte_reads b h o =
    by_test (is_attribute_char b)
    (λ t. rw (byte_bare b t) (Octets.attribute_char t o))
    (λ t. rw (byte_octet b t) (rw (div-add-mod' b 16) at (Octets.ext_octet (digit_back (b / 16) (omega arith)) (digit_back (b % 16) (omega arith)) o)))

pub extended_reads : (bytes : List ℕ) → T (all is_byte bytes) → Octets (extended bytes) bytes
unfolding extended
extended_reads [] h = Octets.none
extended_reads (b ∷ bytes) h =
    let both = and_yes (is_byte b) (all is_byte bytes) h in
    byte_reads b (ltb→lt b 256 both.0) (extended_reads bytes both.1)
