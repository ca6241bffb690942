-- Demand 3 by line: words set one to a line, where each line has a room of its own. Proved once over the encodings and any rooms.
use Rattle.std.specs.Prelude.{◌≡◌, refl, Bool, ℕ, suc, ◌+◌, ◌≤◌, ◌<◌, length, T}
use Rattle.std.proofs.Common.{sym, ap, ◌∙◌, arith, length-append, le→leb}
use mathlib.Core.List.Memᴰ
use mathlib.Core.List.{List, [], ◌∷◌, ◌++◌, Memᴰ}
use Rattle.lists.specs.Lists.{all, nonempty, joined}
use Rattle.lists.specs.ListsLaws.{all_append, joined_append}
use Rattle.utf8.specs.Utf8.{is_char, chars, utf8}
use Rattle.utf8.specs.Utf8Laws.{chars_joined, chars_of}
use Rattle.cut.specs.Cut.{cut}
use Rattle.cut.proofs.CutLaws.{AllFit, cut_joined, cut_fits, fewest}
use Rattle.word_spelling.specs.Spelling.{closing}
use Rattle.row.specs.declared.Encoding.{Encoding}
use Rattle.row.specs.Word.{opening_in, spell_in}
use Rattle.row.specs.Row.{fits_room}
use Rattle.row.specs.Layout.{Word, word_bytes, added_text}
use Rattle.row.proofs.FitsLaws.{length_opening_in, fits_part, some_of, none_fits}
use Rattle.row.specs.Demand3.{Proper}
use Rattle.row.specs.RoomsLaws.{OnLines}
use Rattle.row.specs.RoomsLaws.OnLines.{end, word, without}

-- ---- words that are proper

-- each of these words is
abbrev pub AllProper : List Encoding → ℕ → List Word → Type 0
AllProper es limit ws = (w : Word) → Memᴰ w ws → Proper es limit w

module _ {es : List Encoding} {limit : ℕ} where
  pub none_proper : AllProper es limit []
  none_proper v m = absurd (Memᴰ.not-nil m)

  pub cons_proper : {w : Word} {ws : List Word} → Proper es limit w → AllProper es limit ws → AllProper es limit (w ∷ ws)
  cons_proper p ps v (Memᴰ.head e) = rw e p
  cons_proper p ps v (Memᴰ.tail m) = ps v m

  pub first_proper : {w : Word} {ws : List Word} → AllProper es limit (w ∷ ws) → Proper es limit w
  first_proper {w} h = h w (Memᴰ.head refl)

  pub rest_proper : {w : Word} {ws : List Word} → AllProper es limit (w ∷ ws) → AllProper es limit ws
  rest_proper h = λ v m. h v (Memᴰ.tail m)

-- a word is its opening and closing, 12 characters, and what stands between
pub length_word : (w : Word) → length (word_bytes w) ≡ length w.standing + 12
length_word w = omega (arith, length-append (opening_in w.encoding) (w.standing ++ closing), length-append w.standing closing, length_opening_in w.encoding)

-- ---- the characters of words

abbrev runs_of : List Word → List (List (List ℕ))
runs_of [] = []
runs_of (w ∷ ws) = chars w.added ∷ runs_of ws

runs_of_text : (ws : List Word) → joined (joined (runs_of ws)) ≡ added_text ws
runs_of_text [] = refl
runs_of_text (w ∷ ws) = rw (joined_append (chars w.added) (joined (runs_of ws)), chars_joined w.added, runs_of_text ws) refl

module _ {es : List Encoding} {limit : ℕ} where
  runs_of_chars : (ws : List Word) → AllProper es limit ws → T (all is_char (joined (runs_of ws)))
  unfolding utf8
  runs_of_chars [] h = tt
  runs_of_chars (w ∷ ws) h = all_append is_char (chars w.added) (joined (runs_of ws)) (first_proper h).whole (runs_of_chars ws (rest_proper h))

  -- the words' text, cut into characters
  runs_of_whole : (ws : List Word) → AllProper es limit ws → chars (added_text ws) ≡ joined (runs_of ws)
  runs_of_whole ws h = ap chars (sym (runs_of_text ws)) ∙ chars_of (joined (runs_of ws)) (runs_of_chars ws h)

  -- A proper word holds its characters in any room that what stands in it has.
  word_fits : {w : Word} (room k : ℕ) → Proper es limit w → length w.standing ≤ room → T (fits_room es room k (chars w.added))
  word_fits {w} room k p h =
      some_of room k (chars w.added) p.allowed
      (rw (chars_joined w.added) (le→leb (length (spell_in w.encoding w.added)) room (rw (← p.spelt) h)))

-- ---- words on lines

-- whether line k holds these characters
abbrev pub fits_line : List Encoding → (ℕ → ℕ) → ℕ → List (List ℕ) → Bool
fits_line es rooms k run = fits_room es (rooms k) k run

-- the characters on each line
record LineRuns (es : List Encoding) (rooms : ℕ → ℕ) (k : ℕ) (ws : List Word) (n : ℕ) : Type 0 where
  runs : List (List (List ℕ))
  count : length runs ≡ n
  fit : AllFit (fits_line es rooms) k runs
  whole : joined runs ≡ joined (runs_of ws)

line_runs : {es : List Encoding} {limit : ℕ} (rooms : ℕ → ℕ) → T (nonempty es) → {k n : ℕ} {ws : List Word} → AllProper es limit ws → OnLines rooms k ws n → LineRuns es rooms k ws n
line_runs rooms some p OnLines.end = record { runs = []; count = refl; fit = tt; whole = refl }
line_runs rooms some {k = k} p (OnLines.word {w = w} {ws = ws} h o) =
    let r = line_runs rooms some (rest_proper p) o in record {
      runs = chars w.added ∷ r.runs;
      count = ap suc r.count;
      fit = (word_fits (rooms k) k (first_proper p) h, r.fit);
      whole = ap (λ (l : List (List ℕ)). chars w.added ++ l) r.whole;
    }
line_runs {es = es} rooms some {k = k} p (OnLines.without o) =
    let r = line_runs rooms some p o in
    record { runs = [] ∷ r.runs; count = ap suc r.count; fit = (none_fits es some (rooms k) k, r.fit); whole = r.whole }

-- Demand 3 by line: these runs of characters are the text, each fits its line, and no proper words that read as the text stand on fewer lines.
pub record ByLine (es : List Encoding) (rooms : ℕ → ℕ) (text : List ℕ) (runs : List (List (List ℕ))) : Type 0 where
  pub whole : joined runs ≡ chars text
  pub fit : AllFit (fits_line es rooms) 0 runs
  pub fewest_lines : (limit n : ℕ) (ws : List Word) → AllProper es limit ws → added_text ws ≡ text → OnLines rooms 0 ws n → 0 < n → length runs ≤ n

-- It holds of every text of UTF-8, over the encodings and any rooms that hold each character by itself, on every line but the first.
pub by_line : (es : List Encoding) (rooms : ℕ → ℕ) (text : List ℕ) → T (nonempty es) → ((k : ℕ) (c : List ℕ) → T (is_char c) → T (fits_line es rooms (suc k) (c ∷ [])))
    → T (utf8 text) → ByLine es rooms text (cut (fits_line es rooms) 0 [] (chars text))
unfolding utf8
by_line es rooms text some each u = record {
  whole = cut_joined (fits_line es rooms) 0 [] (chars text);
  fit = cut_fits (fits_line es rooms) is_char each 0 [] (chars text) (none_fits es some (rooms 0) 0) u;
  fewest_lines = λ limit n ws p e o h. let r = line_runs rooms some p o in
      least n r.runs r.count h r.fit (r.whole ∙ sym (runs_of_whole ws p) ∙ ap chars e);
}
  where
    least : (n : ℕ) (hs : List (List (List ℕ))) → length hs ≡ n → 0 < n → AllFit (fits_line es rooms) 0 hs → joined hs ≡ chars text
        → length (cut (fits_line es rooms) 0 [] (chars text)) ≤ n
    least n [] c h f e = absurd (omega arith)
    least n (g ∷ hs) c h f e =
        rw (← c) (fewest (fits_line es rooms) (λ k. fits_part es (rooms k) k) 0 [] [] (chars text) g hs f e)
