-- The writing of pieces, step by step.
use Rattle.std.specs.Prelude.{◌≡◌, Bool, not, ℕ, zero, suc, ◌+◌, ◌/◌, ◌%◌, ◌≤◌, ◌<◌, T, leb, length, drop, get_or}
use Rattle.std.proofs.Math.Path.{refl}
use Rattle.std.proofs.Common.{sym, ap, ◌∙◌, arith, lit≤, length-append, length-take-le, le-leb}
use Rattle.std.proofs.Math.Bool.{true, false, cond}
use mathlib.Core.List.{List, [], ◌∷◌, ◌++◌, append-nil}
use Rattle.std.proofs.Math.ListN.{take}
use Rattle.std.proofs.Math.Seq.{take-length}
use Rattle.std.proofs.lemmas.Bool.{lt-leb}
use Rattle.std.proofs.Math.Facts.{leb_yes, leb_no}
use Rattle.lists.specs.ListsLaws.{by_test, cond_has, true_yes, yes_true, no_false}
use Rattle.buffer.specs.Buffer.{AppendedCapped, greatest}
use Rattle.buffer.specs.BufferLaws.{capped_then, capped_same, length_added}
use Rattle.hex_digit.specs.Hex.{hex_digit}
use Rattle.hex_digit.proofs.HexLaws.{upper_half, lower_half}
use Rattle.mime_parameter.specs.Extended.{is_attribute_char, extended_byte, extended, charset}
use Rattle.mime_parameter.specs.ExtendedLaws.{byte_bare, byte_octet, extended_at}
use Rattle.mime_parameter.specs.Number.{decimal}
use Rattle.mime_parameter.specs.NumberLaws.{decimal_low, decimal_high, length_decimal}
use Rattle.mime_parameter.specs.Pieces.{charset_of, alone_label, part_label, line_fits, alone_piece, part_piece, parts, has_room, laid, parameter_lines, limited}
use Rattle.mime_parameter.specs.PiecesLaws.{line_length, length_alone, length_label, pieces_alone, pieces_parts}
use Rattle.mime_parameter.specs.PartLaws.{mark_of, parts_laid, parts_fit}

no_from : (b : Bool) → b ≡ false → T (not b)
no_from b e = rw e tt

-- ---- a byte

module _ (b : ℕ) {r : Bool} (q : r ≡ is_attribute_char b) where
  is_bare : r ≡ true → extended_byte b ≡ b ∷ []
  is_bare e = byte_bare b (true_yes (is_attribute_char b) (sym q ∙ e))

  is_octet : r ≡ false → extended_byte b ≡ 37 ∷ hex_digit (b / 16) ∷ hex_digit (b % 16) ∷ []
  is_octet e = byte_octet b (no_from (is_attribute_char b) (sym q ∙ e))

  pub bare_added : r ≡ true → {before after : List ℕ} {at n : ℕ} → AppendedCapped (b ∷ []) at before after n → AppendedCapped (extended_byte b) at before after n
  bare_added e a = capped_same (sym (is_bare e)) a

  pub octet_added : r ≡ false → b < 256 → {before first second after : List ℕ} {at m l n h d : ℕ} → length before ≤ greatest → h ≡ hex_digit (b / 16 % 16) → d ≡ hex_digit (b % 16 % 16)
      → AppendedCapped (37 ∷ []) at before first m → AppendedCapped (h ∷ []) m first second l → AppendedCapped (d ∷ []) l second after n
      → AppendedCapped (extended_byte b) at before after n
  octet_added e small k hh hd x y z =
      let two = capped_then y z (omega (arith, k, length_added x)) in
      capped_same (rw (is_octet e, upper_half b small hh, lower_half b hd)) (capped_then x two k)

  -- the octet's three characters at once
  pub octet_sliced : r ≡ false → b < 256 → {before after : List ℕ} {at n h d : ℕ} → h ≡ hex_digit (b / 16 % 16) → d ≡ hex_digit (b % 16 % 16)
      → AppendedCapped (37 ∷ h ∷ d ∷ []) at before after n → AppendedCapped (extended_byte b) at before after n
  octet_sliced e small hh hd x = capped_same (rw (is_octet e, upper_half b small hh, lower_half b hd)) x

  pub bare_len : r ≡ true → (1 ≡ length (extended_byte b)) × (1 ≤ 3)
  bare_len e = (sym (ap length (is_bare e)), lit≤ tt)

  pub octet_len : r ≡ false → (3 ≡ length (extended_byte b)) × (3 ≤ 3)
  octet_len e = (sym (ap length (is_octet e)), lit≤ tt)

-- the length of what is left
pub len_next : (s : List ℕ) (i n m total : ℕ) → i < length s → n + length (extended (drop i s)) ≡ total → m ≡ length (extended_byte (get_or s i 0))
    → n + m + length (extended (drop (i + 1) s)) ≡ total
len_next s i n m total h e q =
    let size : length (extended (drop i s)) ≡ length (extended_byte (get_or s i 0)) + length (extended (drop (i + 1) s)) =
    ap length (extended_at s i h) ∙ length-append (extended_byte (get_or s i 0)) (extended (drop (i + 1) s)) in
    omega (arith, e, q, size)

-- ---- a number

pub number_low : (n : ℕ) → n < 10 → {before after : List ℕ} {at r : ℕ} → AppendedCapped ((n % 10 + 48) ∷ []) at before after r → AppendedCapped (decimal n) at before after r
number_low n h a = capped_same (sym (decimal_low n h)) a

pub number_high : (n : ℕ) → 10 ≤ n → {before mid after : List ℕ} {at m r : ℕ} → length before ≤ greatest → AppendedCapped (decimal (n / 10)) at before mid m
    → AppendedCapped ((n % 10 + 48) ∷ []) m mid after r → AppendedCapped (decimal n) at before after r
number_high n h k a b = capped_same (sym (decimal_high n h)) (capped_then a b k)

-- ---- a label

pub alone_label_lem : (name : List ℕ) {before mid after : List ℕ} {at m r : ℕ} → length before ≤ greatest → AppendedCapped name at before mid m
    → AppendedCapped (42 ∷ 61 ∷ charset) m mid after r → AppendedCapped (alone_label name) at before after r
unfolding alone_label
alone_label_lem name k a b = capped_then a b k

pub part_label_lem : (name : List ℕ) (k : ℕ) {tail : List ℕ} → tail ≡ 42 ∷ 61 ∷ charset_of k → {before first second third after : List ℕ} {at l m n r : ℕ} → length before ≤ greatest
    → AppendedCapped name at before first l → AppendedCapped (42 ∷ []) l first second m → AppendedCapped (decimal k) m second third n
    → AppendedCapped tail n third after r → AppendedCapped (part_label name k) at before after r
unfolding part_label
part_label_lem name k e h a b c d =
    let last = capped_then c d (omega (arith, h, length_added a, length_added b)) in
    let marked = capped_then b last (omega (arith, h, length_added a)) in
    capped_same (rw e) (capped_then a marked h)

pub first_charset : (k : ℕ) → k ≡ 0 → 42 ∷ 61 ∷ charset ≡ 42 ∷ 61 ∷ charset_of k
first_charset zero e = refl
first_charset (suc k) e = absurd (omega arith)

pub no_charset : (k : ℕ) → (k ≡ 0 → ⊥) → 42 ∷ 61 ∷ [] ≡ 42 ∷ 61 ∷ charset_of k
no_charset zero e = absurd (e refl)
no_charset (suc k) e = refl

length_charset : (k : ℕ) → length (charset_of k) ≤ 7
length_charset zero = lit≤ tt
length_charset (suc k) = lit≤ tt

-- its length is what an empty buffer is answered
pub label_length : (name : List ℕ) (k : ℕ) → length name ≤ 32768 → k ≤ 32768 → length (part_label name k) ≤ 65556
label_length name k h g = omega (arith, length_label name k, (length_decimal k).1, length_charset k)

pub label_len : (name : List ℕ) (k : ℕ) → length name ≤ 32768 → k ≤ 32768 → {before after : List ℕ} {r : ℕ} → AppendedCapped (part_label name k) 0 before after r → r ≡ length (part_label name k)
label_len name k h g a = omega (arith, a.place, label_length name k h g)

-- ---- lines

pub first_break : (k : ℕ) → k ≡ 0 → 13 ∷ 10 ∷ 32 ∷ [] ≡ mark_of k ++ (13 ∷ 10 ∷ 32 ∷ [])
first_break zero e = refl
first_break (suc k) e = absurd (omega arith)

pub later_break : (k : ℕ) → (k ≡ 0 → ⊥) → 59 ∷ 13 ∷ 10 ∷ 32 ∷ [] ≡ mark_of k ++ (13 ∷ 10 ∷ 32 ∷ [])
later_break zero e = absurd (e refl)
later_break (suc k) e = refl

pub part_added : (name : List ℕ) (k : ℕ) (bytes start : List ℕ) {before first second after : List ℕ} {at m n r : ℕ} → length before ≤ greatest
    → AppendedCapped start at before first m → AppendedCapped (part_label name k) m first second n → AppendedCapped (extended bytes) n second after r
    → AppendedCapped (start ++ part_piece name k bytes) at before after r
unfolding part_piece
part_added name k bytes start h a b c = capped_then a (capped_then b c (omega (arith, h, length_added a))) h

pub alone_added : (name text : List ℕ) {before first second after : List ℕ} {at m n r : ℕ} → length before ≤ greatest
    → AppendedCapped (13 ∷ 10 ∷ 32 ∷ []) at before first m → AppendedCapped (alone_label name) m first second n → AppendedCapped (extended text) n second after r
    → AppendedCapped (13 ∷ 10 ∷ 32 ∷ alone_piece name text) at before after r
unfolding alone_piece
alone_added name text h a b c = capped_then a (capped_then b c (omega (arith, h, length_added a))) h

-- ---- alone or in parts

module _ (name text : List ℕ) where
  pub alone_fits : (n m : ℕ) → n ≡ length name → m ≡ length (extended text) → leb (n + 9 + m) 74 ≡ line_fits (alone_piece name text)
  alone_fits n m hn hm =
      let l = n + 9 + m in
      let size : length (alone_piece name text) ≡ n + 9 + m = length_alone name text ∙ rw (← hn, ← hm) in
      let line : line_fits (alone_piece name text) ≡ leb (n + 9 + m + 2) 76 = line_length (alone_piece name text) ∙ ap (λ (k : ℕ). leb (k + 2) 76) size in
      by_test (leb l 74)
      (λ t. yes_true (leb l 74) t ∙ sym (line ∙ le-leb (l + 2) 76 (omega (arith, leb_yes {a = l} {b = 74} t))))
      (λ t. no_false (leb l 74) t ∙ sym (line ∙ lt-leb (l + 2) 76 (omega (arith, leb_no {a = l} {b = 74} t))))

  module _ {fit : Bool} (q : fit ≡ line_fits (alone_piece name text)) where
    yes : fit ≡ true → T (line_fits (alone_piece name text))
    yes e = true_yes (line_fits (alone_piece name text)) (sym q ∙ e)

    no : fit ≡ false → T (not (line_fits (alone_piece name text)))
    no e = no_from (line_fits (alone_piece name text)) (sym q ∙ e)

    pub lines_alone : fit ≡ true → {before after : List ℕ} {at r : ℕ} → AppendedCapped (13 ∷ 10 ∷ 32 ∷ alone_piece name text) at before after r
        → AppendedCapped (parameter_lines name text) at before after r
    unfolding parameter_lines laid
    lines_alone e a = capped_same (rw (pieces_alone name text (yes e), append-nil)) a

    pub lines_parts : fit ≡ false → {before after : List ℕ} {at r : ℕ} → AppendedCapped (parts_laid name 0 text) at before after r
        → AppendedCapped (parameter_lines name text) at before after r
    unfolding parameter_lines parts_laid parts
    lines_parts e a = capped_same (rw (pieces_parts name text (no e))) a

    pub room_alone : fit ≡ true → true ≡ has_room name text
    unfolding has_room
    room_alone e = rw (pieces_alone name text (yes e), yes_true (line_fits (alone_piece name text)) (yes e))

    pub room_parts : fit ≡ false → {r : Bool} → r ≡ parts_fit name 0 text → r ≡ has_room name text
    unfolding has_room parts_fit parts
    room_parts e p = rw (pieces_parts name text (no e)) p

-- ---- limits

module _ (s : List ℕ) (n : ℕ) (q : n ≡ cond (leb (length s) 32768) (length s) 0) where
  pub limited_part : take n s ≡ limited s
  unfolding limited
  limited_part = rw q (go (leb (length s) 32768))
    where
      go : (b : Bool) → take (cond b (length s) 0) s ≡ cond b s []
      go true = take-length s
      go false = refl

  limited_le : n ≤ length s
  limited_le = rw q (cond_has (λ n. n ≤ length s) (leb (length s) 32768) (length s) 0 (λ t. omega arith) (λ t. omega arith))

  pub limited_size : n ≡ length (take n s)
  limited_size = sym (length-take-le n s limited_le)

  pub limited_within : length (take n s) ≤ 32768
  limited_within = rw (length-take-le n s limited_le, q) (cond_has (λ n. n ≤ 32768) (leb (length s) 32768) (length s) 0 (λ t. leb_yes t) (λ t. omega arith))

pub limited_short : (s : List ℕ) → length s ≤ 32768 → limited s ≡ s
unfolding limited
limited_short s h = rw (le-leb (length s) 32768 h)
