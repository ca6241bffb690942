-- Rows of which demand 3 does not hold. For each part of it, if that part were left out, it would hold of one of these rows: of
-- `row_with_fault` without `laid`, `row_empty` without `reads`, `lower_case_hex` without `spelt`, `word_of_76` and `word_of_46_bytes` without
-- `short`, `character_cut` without `whole`, `word_too_many`, `q_alone` and `b_alone` without `fewest`.
use Rattle.std.specs.Prelude.{◌≡◌, refl, true, ℕ, ◌≤◌, T, length, get_or, replicate}
use Rattle.std.proofs.Common.{sym, ap, ◌∙◌, arith, le→leb, lit≤}
use mathlib.Core.List.{List, [], ◌∷◌, ◌++◌, append-nil, nil≢cons, Memᴰ}
use Rattle.std.proofs.Math.Option.{none}
use Rattle.std.specs.Int.Count.{count_leading_zeros}
use Rattle.std.proofs.Math.Facts.{yes_and}
use Rattle.lists.specs.CutBy.{cut_after, cut_by}
use Rattle.lists.specs.Byte.{is_byte}
use Rattle.lists.specs.Lists.{all, joined}
use Rattle.utf8.specs.Utf8.{char_len, second_low, second_high, is_char, chars, utf8}
use Rattle.cut.specs.Cut.{cut}
use Rattle.hex_digit.specs.Hex.{hex_digit}
use Rattle.base64_digits.specs.Base64.{digit64, in_base64}
use Rattle.base64_digits.specs.Reading.{is_digit64, value64, from_two, from_last, from_base64}
use Rattle.word_spelling.specs.Spelling.{closing, bare, spell_byte, spell}
use Rattle.row.specs.declared.Encoding.{Encoding}
use Rattle.row.specs.declared.Encoding.TheVariants.{Q, B}
use Rattle.row.specs.Word.{opening_in}
use Rattle.row.specs.Row.{encodings, runs, chosen, lines, row_in, row}
use Rattle.row.specs.Layout.{any_case_value, Adds, Word, word_bytes, LaidAfter, added_text}
use Rattle.row.specs.Layout.LaidAfter.{empty, space, crlf}
use Rattle.row.proofs.LayoutLaws.{Laid, ours, ours_in, lines_laid}
use Rattle.row.specs.Reading.{role, step, reading, words_read, reads_as}
use Rattle.row.proofs.ReadingLaws.{laid_once, fault_not_laid}
use Rattle.row.specs.Demand3.{Proper, RowOf, LaidWords, Demand3}
use Rattle.row.proofs.RoomsLaws.{AllProper, none_proper, cons_proper, first_proper, rest_proper}
use Rattle.row.proofs.Demand3Laws.{row_words, row_laid, row_of}

-- ---- what demand 3 says of a row that is laid out as these words

module _ {text row : List ℕ} {ws : List Word} (l : Laid row ws) (d : Demand3 text row) where
  words_are : d.ours.words ≡ ws
  words_are = laid_once d.ours.laid.0 l

  its_text : added_text ws ≡ text
  its_text = rw words_are at d.ours.reads

  all_proper : AllProper encodings 75 ws
  all_proper = rw words_are at d.ours.proper

  no_fewer : (other : List ℕ) (n : ℕ) → RowOf encodings 75 LaidWords text other n → length ws ≤ n
  no_fewer other n r = rw (← words_are, d.ours.laid.1) (d.fewest other n r)

-- ---- a text of other bytes

-- a row is the row of one text
pub one_text : {s t row : List ℕ} → Demand3 s row → Demand3 t row → s ≡ t
one_text d e = sym (its_text e.ours.laid.0 d) ∙ e.ours.reads

-- the row of a text reads as no other text
pub other_text : {s t : List ℕ} → T (utf8 t) → Demand3 s (row t) → s ≡ t
other_text {s} {t} u d = let r = row_of encodings 63 t tt (lit≤ tt) u in sym (its_text r.laid.0 d) ∙ r.reads

-- `a` and the row of `b`
pub row_of_another : Demand3 (97 ∷ []) (row (98 ∷ [])) → ⊥
unfolding utf8 is_char chars cut_by cut_after char_len count_leading_zeros
row_of_another d = let e : ◌≡◌ {A = ℕ} 97 98 = ap (λ (s : List ℕ). get_or s 0 0) (other_text {t = 98 ∷ []} tt d) in omega arith

-- "an empty row fails demand 3"
pub row_empty : (b : ℕ) (text : List ℕ) → Demand3 (b ∷ text) [] → ⊥
row_empty b text d = nil≢cons (its_text empty d)

-- "A row with a fault reads back as no text"
pub row_with_fault : (text row : List ℕ) → reads_as row ≡ none → Demand3 text row → ⊥
row_with_fault text row e d = fault_not_laid e d.ours.laid.0

-- a word in B of these digits on a line of its own
abbrev digits : List ℕ → List ℕ
digits standing = 13 ∷ 10 ∷ 32 ∷ opening_in B ++ (standing ++ closing)

-- `YQ`: `a` in B without its padding
pub not_padded : (text : List ℕ) → Demand3 text (digits (89 ∷ 81 ∷ [])) → ⊥
unfolding reads_as words_read reading step role from_base64
not_padded text d = row_with_fault text (digits (89 ∷ 81 ∷ [])) refl d

-- `YR==`: `a` in B with a spare bit that is not zero
pub spare_bit : (text : List ℕ) → Demand3 text (digits (89 ∷ 82 ∷ 61 ∷ 61 ∷ [])) → ⊥
unfolding reads_as words_read reading step role from_base64 from_last from_two is_digit64 value64
spare_bit text d = row_with_fault text (digits (89 ∷ 82 ∷ 61 ∷ 61 ∷ [])) refl d

-- ---- words that are not proper

-- 64 times `a` in one word in Q of 76 characters
pub word_of_76 : Demand3 (replicate 64 97) (lines (Q ∷ []) 64 (replicate 64 97 ∷ [])) → ⊥
unfolding chosen spell spell_byte bare
word_of_76 d = absurd (le→leb 76 75 (first_proper (all_proper (lines_laid (Q ∷ []) 64 (replicate 64 97 ∷ []) tt) d)).short)

-- `é`
abbrev é : List ℕ
é = 195 ∷ 169 ∷ []

-- 23 `é`, which have 46 bytes, in one word in B of 76 characters
pub word_of_46_bytes : Demand3 (joined (replicate 23 é)) (lines (B ∷ []) 64 (joined (replicate 23 é) ∷ [])) → ⊥
unfolding chosen in_base64 digit64
word_of_46_bytes d = absurd (le→leb 76 75 (first_proper (all_proper (lines_laid (B ∷ []) 64 (joined (replicate 23 é) ∷ []) tt) d)).short)

-- 23 `é` in two words, as few as can be: the first is in B, full with 45 bytes, and ends inside a character.
pub character_cut : Demand3 (joined (replicate 23 é)) (lines encodings 63 ((joined (replicate 22 é) ++ (195 ∷ [])) ∷ (169 ∷ []) ∷ [])) → ⊥
unfolding utf8 is_char chars cut_by cut_after char_len count_leading_zeros second_low second_high
character_cut d = (first_proper (rest_proper (all_proper (lines_laid encodings 63 ((joined (replicate 22 é) ++ (195 ∷ [])) ∷ (169 ∷ []) ∷ []) tt) d))).whole

-- `=c3=a9`, which adds `é`
abbrev lower_case : Word
lower_case = record { encoding = Q; standing = 61 ∷ 99 ∷ 51 ∷ 61 ∷ 97 ∷ 57 ∷ []; added = é }

pub lower_case_hex : Demand3 é (13 ∷ 10 ∷ 32 ∷ word_bytes lower_case) → ⊥
unfolding any_case_value spell spell_byte bare hex_digit
lower_case_hex d =
    let l : Laid (13 ∷ 10 ∷ 32 ∷ word_bytes lower_case) (lower_case ∷ []) =
    crlf (space (LaidAfter.word {w = lower_case} (Adds.hex refl refl (Adds.hex refl refl Adds.nothing)) empty)) in
    let e : ◌≡◌ {A = ℕ} 99 67 = ap (λ (s : List ℕ). get_or s 1 0) (first_proper (all_proper l d)).spelt in
    omega arith

-- ---- one word too many

-- our words are in Q or in B
pub either_allowed : (e : Encoding) → Memᴰ e encodings
either_allowed Q = Memᴰ.head refl
either_allowed B = Memᴰ.tail (Memᴰ.head refl)

-- bytes in one word in Q that is proper
in_one_word : (bytes : List ℕ) → T (all is_byte bytes) → Proper encodings 75 (ours_in (Q ∷ []) 63 bytes)
    → RowOf encodings 75 LaidWords bytes (lines (Q ∷ []) 63 (bytes ∷ [])) 1
in_one_word bytes h p = record {
  words = ours_in (Q ∷ []) 63 bytes ∷ [];
  laid = (lines_laid (Q ∷ []) 63 (bytes ∷ []) (yes_and (all is_byte bytes) true h tt), refl);
  reads = append-nil bytes;
  proper = cons_proper p none_proper;
}

-- `ab` in two words
pub word_too_many : Demand3 (97 ∷ 98 ∷ []) (lines (Q ∷ []) 63 ((97 ∷ []) ∷ (98 ∷ []) ∷ [])) → ⊥
unfolding utf8 is_char chars cut_by cut_after char_len count_leading_zeros chosen spell spell_byte bare
word_too_many d =
    let one = in_one_word (97 ∷ 98 ∷ []) tt (record { allowed = either_allowed Q; spelt = refl; short = lit≤ tt; whole = tt }) in
    absurd (le→leb 2 1 (no_fewer (lines_laid (Q ∷ []) 63 ((97 ∷ []) ∷ (98 ∷ []) ∷ []) tt) d _ _ one))

-- ---- one encoding for a whole row

-- a row in words of one encoding that has more words than ours
more_words : (e : Encoding) (text : List ℕ) → T (utf8 text) → Demand3 text (row_in (e ∷ []) 63 text) → length (row_words (e ∷ []) 63 text) ≤ length (row_words encodings 63 text)
more_words e text u d = no_fewer (row_laid (e ∷ []) 63 text u) d _ _ (row_of encodings 63 text tt (lit≤ tt) u)

-- sixty `a` and thirty `日`: three words
abbrev sixty_and_thirty : List ℕ
sixty_and_thirty = replicate 60 97 ++ joined (replicate 30 (230 ∷ 151 ∷ 165 ∷ []))

-- six in Q alone
pub q_alone : Demand3 sixty_and_thirty (row_in (Q ∷ []) 63 sixty_and_thirty) → ⊥
unfolding row_words runs cut utf8 is_char chars cut_by cut_after char_len count_leading_zeros second_low second_high in_base64 spell spell_byte bare
q_alone d = absurd (le→leb 6 3 (more_words Q sixty_and_thirty tt d))

-- four in B alone
pub b_alone : Demand3 sixty_and_thirty (row_in (B ∷ []) 63 sixty_and_thirty) → ⊥
unfolding row_words runs cut utf8 is_char chars cut_by cut_after char_len count_leading_zeros second_low second_high in_base64 spell spell_byte bare
b_alone d = absurd (le→leb 4 3 (more_words B sixty_and_thirty tt d))

-- ---- other rooms

-- in words of 1 to 62 characters 63 times `a` takes two, and one would do
pub room_62 : Demand3 (replicate 63 97) (row_in encodings 62 (replicate 63 97)) → ⊥
unfolding row_in row_words runs cut utf8 is_char chars cut_by cut_after char_len count_leading_zeros chosen in_base64 spell spell_byte bare
room_62 d =
    let one = in_one_word (replicate 63 97) tt (record { allowed = either_allowed Q; spelt = refl; short = lit≤ tt; whole = tt }) in
    absurd (le→leb 2 1 (no_fewer (row_laid encodings 62 (replicate 63 97) tt) d _ _ one))

-- in words of 1 to 64 characters 64 times `a` takes one, and that is too long
pub room_64 : Demand3 (replicate 64 97) (row_in encodings 64 (replicate 64 97)) → ⊥
unfolding row_in row_words runs cut utf8 is_char chars cut_by cut_after char_len count_leading_zeros chosen in_base64 spell spell_byte bare
room_64 d = absurd (le→leb 76 75 (first_proper (all_proper (row_laid encodings 64 (replicate 64 97) tt) d)).short)
