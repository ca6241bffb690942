-- Laws of rows: none for an empty text, which texts are encoded, the row after a name that leaves no room, how long a row is.
use Rattle.std.specs.Prelude.{◌≡◌, refl, not, List, [], ◌∷◌, ◌++◌, map, ℕ, suc, ◌+◌, ◌-◌, ◌*◌, ◌≤◌, ◌<◌, length, T, leb}
use Rattle.std.proofs.Common.{ap, append-nil, arith, length-append, T_not, leb→le, le→leb, le-leb}
use Rattle.std.proofs.Math.Facts.{and_yes, leb_yes, leb_no}
use Rattle.std.proofs.lemmas.Bool.{lt-leb}
use Rattle.lists.specs.Lists.{all, nonempty, joined}
use Rattle.lists.specs.ListsLaws.{by_test, cond_yes, cond_no, joined_append}
use Rattle.utf8.specs.Utf8.{chars}
use Rattle.utf8.specs.Utf8Laws.{chars_nil, chars_joined, chars_short, chars_some}
use Rattle.cut.specs.Cut.{cut}
use Rattle.cut.proofs.CutLaws.{cut_more, cut_next}
use Rattle.base64_digits.proofs.Base64Laws.{length_base64}
use Rattle.word_spelling.specs.Spelling.{spell}
use Rattle.word_spelling.specs.Cost.{cost}
use Rattle.word_spelling.specs.SpellingLaws.{length_spell, cost_some}
use Rattle.row.specs.declared.Encoding.TheVariants.{Q, B}
use Rattle.row.specs.Word.{spell_in}
use Rattle.row.specs.Row.{encodings, holds, fits_room, runs, chosen, word_in, lines, row_in, row, fits_after, runs_after, lines_after, row_after_in, row_after, bounded}
use Rattle.row.proofs.FitsLaws.{or_left, or_right, length_word_in, short_fits, chosen_holds}
use Rattle.row.proofs.WordEndLaws.{span_none, word_end_q, first_none, cut_later}

pub row_nil : (text : List ℕ) → length text ≡ 0 → row text ≡ []
unfolding row_in runs lines
row_nil [] e = rw chars_nil refl
row_nil (b ∷ text) e = absurd (omega arith)

pub row_after_nil : (column : ℕ) (text : List ℕ) → length text ≡ 0 → row_after column text ≡ []
unfolding row_after_in runs_after cut lines_after lines
row_after_nil column [] e = rw chars_nil refl
row_after_nil column (b ∷ text) e = absurd (omega arith)

-- with no room on the name's line
pub row_after_none : (column : ℕ) (text : List ℕ) → 63 ≤ column → row_after column text ≡ row text
unfolding spell
row_after_none column text h =
    first_none column
    (word_end_q (63 - column) text 0 0 (span_none text 0 (omega arith)) (omega arith)
    (λ c cs e.
    let some = char_size c (and_yes (nonempty c) (all nonempty cs) (rw e at (chars_some text))).0 in (omega (arith, h, cost_some c some), omega (arith, h, some))))
    refl
  where
    char_size : (c : List ℕ) → T (nonempty c) → 0 < length c
    char_size [] n = absurd n
    char_size (b ∷ c) n = omega arith

-- ---- the texts that are encoded

pub bounded_short : (text : List ℕ) → length text ≤ 4294967296 → bounded text ≡ text
unfolding bounded
bounded_short text h = rw (le-leb (length text) 4294967296 h)

pub row_after_long : (column : ℕ) (text : List ℕ) → 4294967296 < length text → row_after column (bounded text) ≡ []
unfolding bounded
row_after_long column text h = rw (lt-leb (length text) 4294967296 h) (row_after_nil column [] refl)

pub row_after_empty : (column : ℕ) (text : List ℕ) → length text ≡ 0 → row_after column (bounded text) ≡ []
row_after_empty column text h = rw (bounded_short text (omega arith)) (row_after_nil column text h)

-- ---- how long a row is

-- A word takes at most three characters for each byte: in B only where Q takes more.
word_thrice : (room : ℕ) (bytes : List ℕ) → length (word_in encodings room bytes) ≤ 12 + 3 * length bytes
unfolding chosen
word_thrice room bytes =
    let size = length_word_in (chosen encodings room bytes) bytes in
    by_test (holds room bytes Q)
    (λ t. omega (arith, size, ap (λ e. length (spell_in e bytes)) (cond_yes (holds room bytes Q) Q (chosen (B ∷ []) room bytes) t), length_spell bytes))
    (λ t. by_test (holds room bytes B)
    (λ u. omega (
      arith,
      size,
      ap (λ e. length (spell_in e bytes)) (cond_no (holds room bytes Q) Q (chosen (B ∷ []) room bytes) t),
      ap (λ e. length (spell_in e bytes)) (cond_yes (holds room bytes B) B Q u),
      leb_no {a = cost bytes} {b = room} t,
      leb→le (length (spell_in B bytes)) room u,
      length_spell bytes,
    ))
    (λ u. omega (
      arith,
      size,
      ap (λ e. length (spell_in e bytes)) (cond_no (holds room bytes Q) Q (chosen (B ∷ []) room bytes) t),
      ap (λ e. length (spell_in e bytes)) (cond_no (holds room bytes B) B Q u),
      length_spell bytes,
    )))

-- what fits a word of 63 characters makes one of 75 at most
word_short : (k : ℕ) (run : List (List ℕ)) → T (fits_room encodings 63 k run) → length (word_in encodings 63 (joined run)) ≤ 75
word_short k run t = omega (arith, length_word_in (chosen encodings 63 (joined run)) (joined run), (chosen_holds encodings 63 k run t).small)

-- a run that does not fit has more than the 45 bytes that B holds
over_45 : (k : ℕ) (run : List (List ℕ)) (c : List ℕ) → T (not (fits_room encodings 63 k (run ++ (c ∷ [])))) → 45 < length (joined run) + length c
over_45 k run c n =
    let all = joined (run ++ (c ∷ [])) in
    by_test (leb (length all) 45)
    (λ t.
    let fits : length (spell_in B all) ≤ 63 = omega (arith, length_base64 all, leb→le (length all) 45 t) in
    absurd (T_not (fits_room encodings 63 k (run ++ (c ∷ []))) n (or_right (holds 63 all Q) _ (or_left (holds 63 all B) _ (le→leb (length (spell_in B all)) 63 fits)))))
    (λ t. omega (arith, leb_no {a = length all} {b = 45} t, ap length (joined_append run (c ∷ [])), length-append (joined run) (joined (c ∷ [])), ap length (append-nil c)))

-- the bytes of characters that have 8 bytes at most, as every character by its first byte has
abbrev Short : List (List ℕ) → Type 0
Short cs = T (all (λ c. leb (length c) 8) cs)

-- A line that is followed by another holds 38 bytes at least, and takes 78.
lines_length : (k : ℕ) (run cs : List (List ℕ)) → T (fits_room encodings 63 k run) → Short cs
    → length (lines encodings 63 (map joined (cut (fits_room encodings 63) k run cs))) ≤ 15 + 3 * length (joined run) + 3 * length (joined cs)
unfolding cut lines
lines_length k run [] f s =
    omega (arith, word_thrice 63 (joined run), length-append (13 ∷ 10 ∷ 32 ∷ word_in encodings 63 (joined run)) [])
lines_length k run (c ∷ cs) f s =
    let both = and_yes (leb (length c) 8) (all (λ c. leb (length c) 8) cs) s in
    let small : length c ≤ 8 = leb_yes both.0 in
    by_test (fits_room encodings 63 k (run ++ (c ∷ [])))
    (λ t.
    rw (cut_more (fits_room encodings 63) k run c cs t)
    (omega (arith, lines_length k (run ++ (c ∷ [])) cs t both.1, ap length (joined_append run (c ∷ [])), length-append (joined run) (joined (c ∷ [])), ap length (append-nil c), length-append c (joined cs))))
    (λ t.
    let more = lines encodings 63 (map joined (cut (fits_room encodings 63) (suc k) (c ∷ []) cs)) in
    rw (cut_next (fits_room encodings 63) k run c cs t)
    (omega (
      arith,
      length-append (13 ∷ 10 ∷ 32 ∷ word_in encodings 63 (joined run)) more,
      word_short k run f,
      over_45 k run c t,
      small,
      lines_length (suc k) (c ∷ []) cs (short_fits (suc k) c small) both.1,
      ap length (append-nil c),
      length-append c (joined cs),
    )))

-- a row takes at most 3 bytes for each byte of its text, and 15 more
pub length_row_le : (text : List ℕ) → length (row text) ≤ 15 + 3 * length text
unfolding row_in runs lines
length_row_le text = go (chars text) (chars_short text) (ap length (chars_joined text))
  where
    go : (cs : List (List ℕ)) → Short cs → length (joined cs) ≡ length text → length (lines encodings 63 (map joined (runs encodings 63 cs))) ≤ 15 + 3 * length text
    go [] s e = omega arith
    go (c ∷ cs) s e =
        let both = and_yes (leb (length c) 8) (all (λ c. leb (length c) 8) cs) s in
        omega (arith, e, lines_length 0 (c ∷ []) cs (short_fits 0 c (leb_yes both.0)) both.1, ap length (append-nil c), length-append c (joined cs))

-- the name's line, which may have no word, and the row of the rest
first_length : (column : ℕ) (l : List ℕ) (ls : List (List ℕ)) → length (lines_after encodings 63 column (l ∷ ls)) ≤ 13 + 3 * length l + length (lines encodings 63 ls)
unfolding lines_after
first_length column [] ls = omega arith
first_length column (b ∷ l) ls =
    omega (arith, word_thrice (63 - column) (b ∷ l), length-append (32 ∷ word_in encodings (63 - column) (b ∷ l)) (lines encodings 63 ls))

after_length : (column : ℕ) (run cs : List (List ℕ)) → Short cs
    → length (lines_after encodings 63 column (map joined (cut (fits_after encodings 63 column) 0 run cs))) ≤ 28 + 3 * length (joined run) + 3 * length (joined cs)
unfolding cut lines
after_length column run [] s = omega (arith, first_length column (joined run) [])
after_length column run (c ∷ cs) s =
    let both = and_yes (leb (length c) 8) (all (λ c. leb (length c) 8) cs) s in
    by_test (fits_after encodings 63 column 0 (run ++ (c ∷ [])))
    (λ t.
    rw (cut_more (fits_after encodings 63 column) 0 run c cs t)
    (omega (arith, after_length column (run ++ (c ∷ [])) cs both.1, ap length (joined_append run (c ∷ [])), length-append (joined run) (joined (c ∷ [])), ap length (append-nil c), length-append c (joined cs))))
    (λ t.
    let more = lines_length 0 (c ∷ []) cs (short_fits 0 c (leb_yes both.0)) both.1 in
    rw (cut_next (fits_after encodings 63 column) 0 run c cs t, cut_later encodings 63 column 0 0 (c ∷ []) cs)
    (omega (arith, first_length column (joined run) (map joined (cut (fits_room encodings 63) 0 (c ∷ []) cs)), more, ap length (append-nil c), length-append c (joined cs))))

-- after a name and its colon 13 more at most, for the word on the name's line
pub length_row_after_le : (column : ℕ) (text : List ℕ) → length (row_after column text) ≤ 28 + 3 * length text
unfolding row_after_in runs_after
length_row_after_le column text = omega (arith, after_length column [] (chars text) (chars_short text), ap length (chars_joined text))
