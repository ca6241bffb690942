-- Rows after a name of which demand 3 for a field does not hold. For each part that it has beside demand 3, if that part were left out, it
-- would hold of one of these rows: of `line_too_many`, `begun_below` and `begun_below_b` without `fewest`, `first_line_of_77` without the width of the name's
-- line, `space_left` and `two_on_a_line` if rows were set in any way.
use Rattle.std.specs.Prelude.{◌≡◌, refl, ℕ, suc, ◌+◌, ◌≤◌, T, length, drop, get_or}
use Rattle.std.proofs.Common.{sym, ap, ◌∙◌, arith, le→leb, lit≤}
use mathlib.Core.List.{List, [], ◌∷◌, ◌++◌, append-nil, nil≢cons}
use Rattle.std.specs.Int.Count.{count_leading_zeros}
use Rattle.lists.specs.CutBy.{cut_after, cut_by}
use Rattle.lists.specs.Byte.{is_byte}
use Rattle.lists.specs.Lists.{all}
use Rattle.utf8.specs.Utf8.{char_len, second_low, second_high, is_char, chars, utf8}
use Rattle.base64_digits.specs.Base64.{in_base64}
use Rattle.word_spelling.specs.Spelling.{closing, bare, spell_byte, spell}
use Rattle.row.specs.declared.Encoding.{Encoding}
use Rattle.row.specs.declared.Encoding.TheVariants.{Q, B}
use Rattle.row.specs.Word.{opening_in}
use Rattle.row.specs.Row.{encodings}
use Rattle.row.specs.Layout.{Word, word_bytes, LaidAfter}
use Rattle.row.specs.Layout.LaidAfter.{empty, space, crlf}
use Rattle.row.proofs.LayoutLaws.{Laid, ours, ours_reads}
use Rattle.row.proofs.ReadingLaws.{laid_once}
use Rattle.row.specs.Demand3.{Proper, RowOf}
use Rattle.row.proofs.RoomsLaws.{none_proper, cons_proper}
use Rattle.row.specs.FieldRow.{OwnLines, SetAfter, FieldDemand3}
use Rattle.row.specs.FieldRow.SetAfter.{here, below}
use Rattle.row.proofs.FieldRowLaws.{set_laid}
use Rattle.row.proofs.CounterexampleLaws.{either_allowed}

-- ---- how a row is set, by its first byte

own_no_space : {row r : List ℕ} {ws : List Word} → OwnLines row ws → row ≡ 32 ∷ r → ⊥
own_no_space OwnLines.none e = nil≢cons e
own_no_space (OwnLines.line a o) e = let f : ◌≡◌ {A = ℕ} 13 32 = ap (λ (s : List ℕ). get_or s 0 0) e in omega arith

-- after the colon and one space: one line for each word
lines_here : {limit column n : ℕ} {row r : List ℕ} {ws : List Word} → SetAfter limit column row ws n → row ≡ 32 ∷ r → n ≡ length ws
lines_here (here a h o) e = refl
lines_here (below o) e = absurd (own_no_space o e)

-- on the next line: one more
lines_below_lem : {limit column n : ℕ} {row r : List ℕ} {ws : List Word} → SetAfter limit column row ws n → row ≡ 13 ∷ r → n ≡ suc (length ws)
lines_below_lem (here a h o) e = let f : ◌≡◌ {A = ℕ} 32 13 = ap (λ (s : List ℕ). get_or s 0 0) e in absurd (omega arith)
lines_below_lem (below o) e = refl

-- ---- what demand 3 for a field says of a row that is laid out as these words

module _ {column : ℕ} {text row : List ℕ} {ws : List Word} (l : Laid row ws) (d : FieldDemand3 column text row) where
  words_are : d.ours.words ≡ ws
  words_are = laid_once (set_laid d.ours.laid) l

-- bytes in one word after the colon and one space
abbrev word_here : Encoding → List ℕ → List ℕ
word_here e bytes = 32 ∷ word_bytes (ours e bytes)

-- a word on a line of its own
abbrev word_below : Encoding → List ℕ → List ℕ
word_below e bytes = 13 ∷ 10 ∷ 32 ∷ word_bytes (ours e bytes)

laid_below : (e : Encoding) (bytes : List ℕ) → T (all is_byte bytes) → Laid (word_below e bytes) (ours e bytes ∷ [])
laid_below e bytes h =
    let l : Laid (13 ∷ 10 ∷ 32 ∷ word_bytes (ours e bytes) ++ []) (ours e bytes ∷ []) = crlf (space (LaidAfter.word {w = ours e bytes} (ours_reads e bytes h) empty)) in
    rw append-nil at l

in_one_line : (e : Encoding) (column : ℕ) (bytes : List ℕ) → T (all is_byte bytes) → Proper encodings 75 (ours e bytes) → column + length (word_here e bytes) ≤ 76
    → RowOf encodings 75 (SetAfter 75 column) bytes (word_here e bytes ++ []) 1
in_one_line e column bytes h p s =
    record { words = ours e bytes ∷ []; laid = here {w = ours e bytes} (ours_reads e bytes h) s OwnLines.none; reads = append-nil bytes; proper = cons_proper p none_proper }

-- a word on the next line that fits the name's
one_below : (e k : Encoding) (column : ℕ) (bytes : List ℕ) → T (all is_byte bytes) → Proper encodings 75 (ours k bytes) → column + length (word_here k bytes) ≤ 76
    → FieldDemand3 column bytes (word_below e bytes) → ⊥
one_below e k column bytes h p s d =
    absurd (le→leb 2 1 (rw (lines_below_lem d.ours.laid refl, words_are (laid_below e bytes h) d) at (d.fewest _ 1 (in_one_line k column bytes h p s))))

-- ---- a line too many

-- `ab` after `Subject:` in two words on two lines
pub line_too_many : FieldDemand3 8 (97 ∷ 98 ∷ []) (word_here Q (97 ∷ []) ++ word_below Q (98 ∷ [])) → ⊥
unfolding utf8 is_char chars cut_by cut_after char_len count_leading_zeros spell spell_byte bare
line_too_many d =
    let one = in_one_line Q 8 (97 ∷ 98 ∷ []) tt (record { allowed = either_allowed Q; spelt = refl; short = lit≤ tt; whole = tt }) (lit≤ tt) in
    let laid : Laid (word_here Q (97 ∷ []) ++ word_below Q (98 ∷ [])) (ours Q (97 ∷ []) ∷ ours Q (98 ∷ []) ∷ []) =
    space (LaidAfter.word {w = ours Q (97 ∷ [])} (ours_reads Q (97 ∷ []) tt) (crlf (space (LaidAfter.word {w = ours Q (98 ∷ [])} (ours_reads Q (98 ∷ []) tt) empty)))) in
    absurd (le→leb 2 1 (rw (lines_here d.ours.laid refl, words_are laid d) at (d.fewest _ 1 one)))

-- `a` on the next line after `Subject:`, where it fits the name's
pub begun_below : FieldDemand3 8 (97 ∷ []) (word_below Q (97 ∷ [])) → ⊥
unfolding utf8 is_char chars cut_by cut_after char_len count_leading_zeros spell spell_byte bare
begun_below d = one_below Q Q 8 (97 ∷ []) tt (record { allowed = either_allowed Q; spelt = refl; short = lit≤ tt; whole = tt }) (lit≤ tt) d

-- `é` in Q on the next line after a name of 58 characters and its colon, where it fits the name's in B only
pub begun_below_b : FieldDemand3 59 (195 ∷ 169 ∷ []) (word_below Q (195 ∷ 169 ∷ [])) → ⊥
unfolding utf8 is_char chars cut_by cut_after char_len count_leading_zeros second_low second_high in_base64
begun_below_b d = one_below Q B 59 (195 ∷ 169 ∷ []) tt (record { allowed = either_allowed B; spelt = refl; short = lit≤ tt; whole = tt }) (lit≤ tt) d

-- ---- rows that are not set as ours

-- the width of the name's line
width_here : {limit column n : ℕ} {row r : List ℕ} {w : Word} {vs ws : List Word} → SetAfter limit column row vs n → row ≡ 32 ∷ r → vs ≡ w ∷ ws
    → column + length (32 ∷ word_bytes w) ≤ suc limit
width_here {w = w} (here {w = v} {ws = vs} a h o) e f = let same : v ≡ w = cc in rw (← same) h
width_here (below o) e f = absurd (own_no_space o e)

-- `a` after a name of 62 characters and its colon, on a line of 77
pub first_line_of_77 : FieldDemand3 63 (97 ∷ []) (word_here Q (97 ∷ [])) → ⊥
unfolding spell spell_byte bare
first_line_of_77 d =
    let laid : Laid (word_here Q (97 ∷ [])) (ours Q (97 ∷ []) ∷ []) = space (LaidAfter.word {w = ours Q (97 ∷ [])} (ours_reads Q (97 ∷ []) tt) empty) in
    absurd (le→leb 77 76 (width_here d.ours.laid refl (words_are laid d)))

-- a word starts with `=`
opening_first : (e : Encoding) (x r : List ℕ) → get_or ((opening_in e ++ x) ++ r) 0 0 ≡ 61
opening_first Q x r = refl
opening_first B x r = refl

-- a space straight after the colon, and then CRLF
pub space_left : (column : ℕ) (text row : List ℕ) → FieldDemand3 column text (32 ∷ 13 ∷ row) → ⊥
space_left column text row d = go d.ours.laid refl
  where
    go : {limit n : ℕ} {all : List ℕ} {ws : List Word} → SetAfter limit column all ws n → all ≡ 32 ∷ 13 ∷ row → ⊥
    go (here {row = r} {w = w} a h o) e =
        let f : ◌≡◌ {A = ℕ} 61 13 = sym (opening_first w.encoding (w.standing ++ closing) r) ∙ ap (λ (s : List ℕ). get_or s 1 0) e in omega arith
    go (below o) e = own_no_space o e

-- `ab` in two words on the name's line, parted by a space
pub two_on_a_line : FieldDemand3 8 (97 ∷ 98 ∷ []) (word_here Q (97 ∷ []) ++ word_here Q (98 ∷ [])) → ⊥
unfolding spell spell_byte bare
two_on_a_line d =
    let laid : Laid (word_here Q (97 ∷ []) ++ word_here Q (98 ∷ [])) (ours Q (97 ∷ []) ∷ ours Q (98 ∷ []) ∷ []) =
    space (LaidAfter.word {w = ours Q (97 ∷ [])} (ours_reads Q (97 ∷ []) tt) (space (LaidAfter.word {w = ours Q (98 ∷ [])} (ours_reads Q (98 ∷ []) tt) empty))) in
    go d.ours.laid refl (words_are laid d)
  where
    go : {limit n : ℕ} {row r : List ℕ} {vs ws : List Word} → SetAfter limit 8 row vs n → row ≡ word_here Q (97 ∷ []) ++ (32 ∷ r) → vs ≡ ours Q (97 ∷ []) ∷ ws → ⊥
    go (here {w = v} {ws = us} a h o) e f = let same : v ≡ ours Q (97 ∷ []) = cc in own_no_space o (ap (λ (s : List ℕ). drop 14 s) (rw same at e))
    go (below o) e f = own_no_space o e
