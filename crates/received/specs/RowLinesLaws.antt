-- The lines of a row of encoded words: none is long.
use Rattle.std.proofs.Common.{ne_eqb, ap, ◌∙◌, append_assoc, not-suc-le-zero, arith, eqb→eq, leb→le, le→leb, length-take}
use Rattle.std.specs.Prelude.{◌≡◌, refl, Bool, true, cond, ◌&&◌, List, [], ◌∷◌, ◌++◌, map, ℕ, suc, pred, ◌+◌, ◌-◌, ◌/◌, ◌%◌, ◌≤◌, T, eqb, leb, ltb, length, take, get_or}
use Rattle.std.proofs.Math.Facts.{and_yes, yes_and, leb_yes, leb_no}
use Rattle.lists.specs.CutByLaws.{cut_all}
use Rattle.lists.specs.Lists.{all, joined}
use Rattle.lists.specs.ListsLaws.{by_test, cond_has, all_append, all_weaken}
use Rattle.utf8.specs.Utf8.{char_len, chars}
use Rattle.utf8.specs.Utf8Laws.{char_len_le}
use Rattle.cut.proofs.CutLaws.{AllFit, cut_fits}
use Rattle.hex_digit.specs.Hex.{hex_digit}
use Rattle.word_spelling.specs.Spelling.{closing, bare, escape, spell_byte, spell}
use Rattle.base64_digits.specs.Base64.{in_base64}
use Rattle.base64_digits.specs.Reading.{is_digit64}
use Rattle.base64_digits.proofs.Base64Laws.{is_base64, all_base64}
use Rattle.row.specs.declared.Encoding.{Encoding}
use Rattle.row.specs.declared.Encoding.TheVariants.{Q, B}
use Rattle.row.specs.Word.{opening_in, spell_in, word}
use Rattle.row.specs.Row.{encodings, fits_room, runs, chosen, lines, row_in, row}
use Rattle.row.proofs.FitsLaws.{length_word_in, short_fits, chosen_holds}
use Rattle.received.specs.Received.{column_after}
use Rattle.received.specs.LinesLaws.{column_append, column_past, in_line, column_run, new_line, line_starts, line_past}

digit_in_line : (v : ℕ) → T (in_line (hex_digit v))
unfolding hex_digit
digit_in_line v =
    cond_has (λ b. T (in_line b)) (ltb v 10) (v + 48) (v - 10 + 65)
    (λ t. far (v + 48) (omega arith)) (λ t. far (v - 10 + 65) (omega arith))
  where
    far : (b : ℕ) → 11 ≤ b → T (in_line b)
    far b h = rw (ne_eqb b 10 (λ e. not-suc-le-zero {n = 0} (omega arith))) tt

no_bare : T (bare 10) → ⊥
unfolding bare
no_bare t = t

byte_in_line : (b : ℕ) → T (all in_line (spell_byte b))
unfolding spell_byte
byte_in_line b =
    cond_has (λ (l : List ℕ). T (all in_line l)) (bare b) (b ∷ []) (cond (eqb b 32) (95 ∷ []) (escape b))
    (λ t. yes_and (in_line b) true (by_test (eqb b 10) (λ u. absurd (no_bare (rw (eqb→eq b 10 u) at t))) (λ u. u)) tt)
    (λ t. cond_has (λ (l : List ℕ). T (all in_line l)) (eqb b 32) (95 ∷ []) (escape b)
    (λ u. tt)
    (λ u. yes_and (in_line (hex_digit (b / 16))) (in_line (hex_digit (b % 16)) && true) (digit_in_line (b / 16)) (yes_and (in_line (hex_digit (b % 16))) true (digit_in_line (b % 16)) tt)))

spell_in_line : (bytes : List ℕ) → T (all in_line (spell bytes))
unfolding spell
spell_in_line [] = tt
spell_in_line (b ∷ bytes) = all_append in_line (spell_byte b) (spell bytes) (byte_in_line b) (spell_in_line bytes)

no_base64 : T (is_base64 10) → ⊥
unfolding is_digit64
no_base64 t = t

base64_in_line : (bytes : List ℕ) → T (all in_line (in_base64 bytes))
base64_in_line bytes = all_weaken is_base64 in_line (λ b t. by_test (eqb b 10) (λ u. absurd (no_base64 (rw (eqb→eq b 10 u) at t))) (λ u. u)) (in_base64 bytes) (all_base64 bytes)

opening_in_line : (e : Encoding) → T (all in_line (opening_in e))
opening_in_line Q = tt
opening_in_line B = tt

spelled_in_line : (e : Encoding) (bytes : List ℕ) → T (all in_line (spell_in e bytes))
spelled_in_line Q bytes = spell_in_line bytes
spelled_in_line B bytes = base64_in_line bytes

word_in_line : (e : Encoding) (bytes : List ℕ) → T (all in_line (word e bytes))
unfolding word
word_in_line e bytes = all_append in_line (opening_in e) (spell_in e bytes ++ closing) (opening_in_line e) (all_append in_line (spell_in e bytes) closing (spelled_in_line e bytes) tt)

-- a word on a line of its own, and the line after it
word_column : (column : ℕ) (e : Encoding) (bytes : List ℕ) → length (spell_in e bytes) ≤ 63
    → column_after (column_after column (new_line ++ word e bytes)) new_line ≡ column_after column new_line
word_column column e bytes h =
    by_test (leb column 998)
    (λ t.
    let start = line_starts column (leb_yes t) in
    let after : column_after 1 (word e bytes) ≡ 1 + length (word e bytes) = column_run 1 (word e bytes) (word_in_line e bytes) (omega (arith, length_word_in e bytes)) in
    rw (column_append column new_line (word e bytes), start, after, line_starts (1 + length (word e bytes)) (omega (arith, length_word_in e bytes))))
    (λ t.
    let past = line_past column (leb_no {a = column} {b = 998} t) in
    rw (column_append column new_line (word e bytes), column_past (column_after column new_line) (word e bytes) past) (column_past (column_after column new_line) new_line past))

lines_column : (k column : ℕ) (rs : List (List (List ℕ))) → AllFit (fits_room encodings 63) k rs → column_after column (lines encodings 63 (map joined rs) ++ new_line) ≡ column_after column new_line
unfolding lines
lines_column k column [] f = refl
lines_column k column (r ∷ rs) f =
    let e = chosen encodings 63 (joined r) in
    let first = new_line ++ word e (joined r) in
    let more = lines encodings 63 (map joined rs) in
    ap (λ (l : List ℕ). column_after column l) (append_assoc first more new_line)
    ∙ (column_append column first (more ++ new_line)
    ∙ (lines_column (suc k) (column_after column first) rs f.1
    ∙ word_column column e (joined r) (chosen_holds encodings 63 0 r f.0).small))

abbrev short : List ℕ → Bool
short c = leb (length c) 8

chars_short : (text : List ℕ) → T (all short (chars text))
unfolding chars
chars_short text =
    cut_all (λ rest. char_len (get_or rest 0 0)) short
    (λ s h. le→leb (length (take (suc (pred (char_len (get_or s 0 0)))) s)) 8 (omega (arith, length-take (suc (pred (char_len (get_or s 0 0)))) s, char_len_le (get_or s 0 0)))) text

runs_fit : (cs : List (List ℕ)) → T (all short cs) → AllFit (fits_room encodings 63) 0 (runs encodings 63 cs)
unfolding runs
runs_fit [] t = tt
runs_fit (c ∷ cs) t =
    let both = and_yes (short c) (all short cs) t in
    cut_fits (fits_room encodings 63) short (λ k d u. short_fits (suc k) d (leb→le (length d) 8 u)) 0 (c ∷ []) cs (short_fits 0 c (leb→le (length c) 8 both.0)) both.1

-- what follows a row on a new line stands where it would without the row
pub row_column : (column : ℕ) (text : List ℕ) → column_after column (row text ++ (13 ∷ 10 ∷ 32 ∷ [])) ≡ column_after column (13 ∷ 10 ∷ 32 ∷ [])
unfolding row_in
row_column column text = lines_column 0 column (runs encodings 63 (chars text)) (runs_fit (chars text) (chars_short text))
