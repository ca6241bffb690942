-- Demand 3 for a field holds of every text of UTF-8 and its row after a name: demand 3 by line (RoomsLaws.antt), where the name's line has
-- less room. Over the encodings, the room of a word and the length of the name.
use Rattle.std.specs.Prelude.{◌≡◌, Bool, ℕ, suc, ◌+◌, ◌-◌, ◌≤◌, ◌<◌}
use Rattle.std.proofs.Math.Path.{refl, ap}
use Rattle.std.proofs.Common.{◌∙◌, arith, lit≤}
use mathlib.Core.List.{List, [], ◌∷◌, ◌++◌, map}
use Rattle.std.proofs.Math.ListN.{length, length-map}
use Rattle.std.proofs.Math.Dec.{T}
use Rattle.std.proofs.Math.Facts.{and_yes}
use Rattle.lists.specs.Lists.{all, nonempty, joined}
use Rattle.lists.specs.ListsLaws.{all_joined, joined_map}
use Rattle.lists.specs.Byte.{is_byte}
use Rattle.utf8.specs.Utf8.{is_char, chars, utf8}
use Rattle.utf8.specs.Utf8Laws.{chars_joined, utf8_bytes}
use Rattle.cut.proofs.CutLaws.{AllFit, cut_joined, cut_first}
use Rattle.row.specs.declared.Encoding.{Encoding}
use Rattle.row.specs.Word.{word}
use Rattle.row.specs.Row.{encodings, fits_room, chosen, lines, room_after, fits_after, runs_after, lines_after, row_after_in, row_after}
use Rattle.row.specs.Layout.{Word, LaidAfter, added_text}
use Rattle.row.specs.Layout.LaidAfter.{empty, space, crlf}
use Rattle.row.proofs.LayoutLaws.{Laid, ours_in, ours_reads}
use Rattle.row.proofs.FitsLaws.{spell_in_some, char_fits, chosen_holds}
use Rattle.row.specs.Demand3.{Proper, RowOf, Demand3In}
use Rattle.row.specs.RoomsLaws.{OnLines}
use Rattle.row.proofs.RoomsLaws.{AllProper, cons_proper, first_proper, rest_proper, length_word, by_line}
use Rattle.row.proofs.Demand3Laws.{ours_text, our_proper, ours_proper}
use Rattle.row.specs.FieldRow.{OwnLines, SetAfter, FieldDemand3}
use Rattle.row.specs.FieldRow.SetAfter.{here, below}

-- ---- such a row is laid out as its words, so that it reads back as what they add

own_laid : {row : List ℕ} {ws : List Word} → OwnLines row ws → {straight : Bool} → LaidAfter straight row ws
own_laid OwnLines.none = empty
own_laid (OwnLines.line {w = w} a o) = crlf (space (LaidAfter.word {w = w} a (own_laid o)))

pub set_laid : {limit column : ℕ} {row : List ℕ} {ws : List Word} {n : ℕ} → SetAfter limit column row ws n → Laid row ws
set_laid (here {w = w} a h o) = space (LaidAfter.word {w = w} a (own_laid o))
set_laid (below o) = own_laid o

-- ---- such a row's words, by line

module _ {es : List Encoding} (room column : ℕ) where
  own_on : (k : ℕ) (ws : List Word) → AllProper es (room + 12) ws → OnLines (room_after room column) (suc k) ws (length ws)
  own_on k [] p = OnLines.end
  own_on k (w ∷ ws) p = OnLines.word {k = suc k} {w = w} (omega (arith, length_word w, (first_proper p).short)) (own_on (suc k) ws (rest_proper p))

  set_on : {row : List ℕ} {ws : List Word} {n : ℕ} → SetAfter (room + 12) column row ws n → AllProper es (room + 12) ws → OnLines (room_after room column) 0 ws n × (0 < n)
  set_on (here {w = w} {ws = ws} a s o) p = (OnLines.word {k = 0} {w = w} (omega (arith, length_word w, s)) (own_on 0 ws (rest_proper p)), omega arith)
  set_on (below {ws = ws} o) p = (OnLines.without (own_on 0 ws p), omega arith)

-- ---- our row

module _ (es : List Encoding) (room column : ℕ) where
  -- the words of lines, of which the first may have none
  after_words : List (List ℕ) → List Word
  after_words [] = []
  after_words ([] ∷ more) = map (ours_in es room) more
  after_words ((b ∷ bytes) ∷ more) = ours_in es (room - column) (b ∷ bytes) ∷ map (ours_in es room) more

  own_ours : (ls : List (List ℕ)) → T (all (all is_byte) ls) → OwnLines (lines es room ls) (map (ours_in es room) ls)
  unfolding lines word
  own_ours [] h = OwnLines.none
  own_ours (l ∷ ls) h =
      let both = and_yes (all is_byte l) (all (all is_byte) ls) h in
      OwnLines.line {w = ours_in es room l} (ours_reads (chosen es room l) l both.0) (own_ours ls both.1)

  set_ours : (k : ℕ) (r : List (List ℕ)) (ls : List (List ℕ)) → T (all (all is_byte) (joined r ∷ ls)) → T (fits_room es (room - column) k r)
      → SetAfter (room + 12) column (lines_after es room column (joined r ∷ ls)) (after_words (joined r ∷ ls)) (suc (length ls))
  unfolding lines_after word after_words
  set_ours k r ls h f = go (joined r) h (chosen_holds es (room - column) k r f).small
    where
      go : (l : List ℕ) → T (all (all is_byte) (l ∷ ls)) → length (ours_in es (room - column) l).standing ≤ room - column
          → SetAfter (room + 12) column (lines_after es room column (l ∷ ls)) (after_words (l ∷ ls)) (suc (length ls))
      go [] h small = rw (← length-map ls (ours_in es room)) (below (own_ours ls h))
      go (b ∷ bytes) h small =
          let both = and_yes (all is_byte (b ∷ bytes)) (all (all is_byte) ls) h in
          let kind = chosen es (room - column) (b ∷ bytes) in
          let w = ours_in es (room - column) (b ∷ bytes) in
          rw (← length-map ls (ours_in es room))
          (here {w = w} (ours_reads kind (b ∷ bytes) both.0) (omega (arith, small, length_word w, spell_in_some kind (b ∷ bytes) (omega arith))) (own_ours ls both.1))

  after_text : (ls : List (List ℕ)) → added_text (after_words ls) ≡ joined ls
  unfolding after_words
  after_text [] = refl
  after_text ([] ∷ ls) = ours_text es room ls
  after_text ((b ∷ bytes) ∷ ls) = rw (ours_text es room ls) refl

  rest_fit : (k : ℕ) (rs : List (List (List ℕ))) → AllFit (fits_after es room column) (suc k) rs → AllFit (fits_room es room) (suc k) rs
  rest_fit k [] f = tt
  rest_fit k (r ∷ rs) f = (f.0, rest_fit (suc k) rs f.1)

  after_proper : (r : List (List ℕ)) (rs : List (List (List ℕ))) → AllFit (fits_after es room column) 0 (r ∷ rs) → T (all (all is_char) (r ∷ rs))
      → AllProper es (room + 12) (after_words (map joined (r ∷ rs)))
  unfolding after_words
  after_proper r rs f h =
      let both = and_yes (all is_char r) (all (all is_char) rs) h in
      go (joined r) (our_proper es (room - column) (room + 12) 0 r (omega arith) f.0 both.0) (ours_proper es room 1 rs (rest_fit 0 rs f.1) both.1)
    where
      go : (l : List ℕ) → Proper es (room + 12) (ours_in es (room - column) l) → AllProper es (room + 12) (map (ours_in es room) (map joined rs))
          → AllProper es (room + 12) (after_words (l ∷ map joined rs))
      go [] p q = q
      go (b ∷ bytes) p q = cons_proper p q

  pub runs_after_joined : (cs : List (List ℕ)) → joined (runs_after es room column cs) ≡ cs
  unfolding runs_after
  runs_after_joined cs = cut_joined (fits_after es room column) 0 [] cs

  runs_after_first : (cs : List (List ℕ)) → T (nonempty (runs_after es room column cs))
  unfolding runs_after
  runs_after_first cs = cut_first (fits_after es room column) 0 [] cs

  -- lines of characters that fit, set after a name
  field_row : (text : List ℕ) (rs : List (List (List ℕ))) → T (utf8 text) → joined rs ≡ chars text → AllFit (fits_after es room column) 0 rs → T (nonempty rs)
      → RowOf es (room + 12) (SetAfter (room + 12) column) text (lines_after es room column (map joined rs)) (length rs)
  unfolding utf8
  field_row text [] u e f n = absurd n
  field_row text (r ∷ rs) u e f n =
      let bytes = all_joined is_byte (map joined (r ∷ rs)) (rw (joined_map (r ∷ rs), e, chars_joined text) (utf8_bytes text u)) in record {
        words = after_words (map joined (r ∷ rs));
        laid = rw (← length-map rs joined) (set_ours 0 r (map joined rs) bytes f.0);
        reads = after_text (map joined (r ∷ rs)) ∙ joined_map (r ∷ rs) ∙ ap joined e ∙ chars_joined text;
        proper = after_proper r rs f (all_joined is_char (r ∷ rs) (rw e u));
      }

  -- Demand 3 for a field, over the encodings, the room and the column. A room of 12 holds every character.
  pub field_demand_3_in : (text : List ℕ) → T (nonempty es) → 12 ≤ room → T (utf8 text)
      → Demand3In es (room + 12) (SetAfter (room + 12) column) text (row_after_in es room column text)
  unfolding row_after_in runs_after
  field_demand_3_in text n h u =
      let runs = runs_after es room column (chars text) in
      let l = by_line es (room_after room column) text n (λ k c t. char_fits es n room h (suc k) c t) u in record {
        count = length runs;
        ours = field_row text runs u l.whole l.fit (runs_after_first (chars text));
        fewest = λ other m r. let o = set_on {es = es} room column r.laid r.proper in l.fewest_lines (room + 12) m r.words r.proper r.reads o.0 o.1;
      }

-- Demand 3 for a field.
pub field_demand_3 : (column : ℕ) (text : List ℕ) → T (utf8 text) → FieldDemand3 column text (row_after column text)
field_demand_3 column text u = field_demand_3_in encodings 63 column text tt (lit≤ tt) u
