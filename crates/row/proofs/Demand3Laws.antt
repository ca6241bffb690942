-- Demand 3 holds of every text of UTF-8 and its row: demand 3 by line (RoomsLaws.antt) with one room for all lines.
use Rattle.std.specs.Prelude.{◌≡◌, ℕ, suc, ◌+◌, ◌≤◌, ◌<◌, length}
use Rattle.std.proofs.Math.Path.{refl, sym, ap}
use Rattle.std.proofs.Common.{◌∙◌, arith, length-append, le→leb, lit≤}
use mathlib.Core.List.{List, [], ◌∷◌, ◌++◌, map, nil≢cons, Memᴰ}
use Rattle.std.proofs.Math.ListN.{length-map}
use Rattle.std.proofs.Math.Dec.{T}
use Rattle.std.proofs.Math.Facts.{and_yes}
use Rattle.lists.specs.Lists.{all, nonempty, joined}
use Rattle.lists.specs.ListsLaws.{all_append, all_joined, all_mem, joined_append, joined_map}
use Rattle.lists.specs.Byte.{is_byte}
use Rattle.utf8.specs.Utf8.{is_char, chars, utf8}
use Rattle.utf8.specs.Utf8Laws.{chars_nil, chars_joined, utf8_of, utf8_bytes, char_some}
use Rattle.cut.specs.Cut.{cut}
use Rattle.cut.proofs.CutLaws.{AllFit, cut_joined, cut_more, cut_some}
use Rattle.word_spelling.specs.Spelling.{closing}
use Rattle.row.specs.declared.Encoding.{Encoding}
use Rattle.row.specs.declared.Encoding.TheVariants.{Q}
use Rattle.row.specs.Word.{opening_in, spell_in}
use Rattle.row.specs.Row.{encodings, fits_room, runs, chosen, word_in, row_in, row}
use Rattle.row.specs.Layout.{Word, word_bytes, added_text}
use Rattle.row.proofs.LayoutLaws.{Laid, ours_in, lines_laid}
use Rattle.row.proofs.FitsLaws.{length_opening_in, length_word_in, spell_in_some, fits_any_line, fits_part, some_of, char_fits, chosen_holds}
use Rattle.row.specs.Demand3.{Proper, RowOf, Demand3In, LaidWords, Demand3}
use Rattle.row.specs.RoomsLaws.{OnLines}
use Rattle.row.proofs.RoomsLaws.{AllProper, none_proper, cons_proper, first_proper, rest_proper, length_word, ByLine, by_line}

-- ---- the runs of characters that our words hold

module _ (es : List Encoding) (room : ℕ) where
  pub runs_joined : (cs : List (List ℕ)) → joined (runs es room cs) ≡ cs
  unfolding runs
  runs_joined [] = refl
  runs_joined (c ∷ cs) = cut_joined (fits_room es room) 0 (c ∷ []) cs

  -- each holds something
  pub runs_some : (cs : List (List ℕ)) → T (all nonempty (runs es room cs))
  unfolding runs
  runs_some [] = tt
  runs_some (c ∷ cs) = cut_some (fits_room es room) 0 (c ∷ []) cs tt

  -- they are the lines of demand 3 by line, all of one room
  runs_cut : T (nonempty es) → 12 ≤ room → (c : List ℕ) (cs : List (List ℕ)) → T (is_char c) → runs es room (c ∷ cs) ≡ cut (fits_room es room) 0 [] (c ∷ cs)
  unfolding runs
  runs_cut n h c cs t = sym (cut_more (fits_room es room) 0 [] c cs (char_fits es n room h 0 c t))

  runs_by_line : (text : List ℕ) → T (nonempty es) → 12 ≤ room → T (utf8 text) → ByLine es (λ _. room) text (cut (fits_room es room) 0 [] (chars text))
  runs_by_line text n h u = by_line es (λ _. room) text n (λ k c t. char_fits es n room h (suc k) c t) u

  runs_fit : (text : List ℕ) → T (nonempty es) → 12 ≤ room → T (utf8 text) → AllFit (fits_room es room) 0 (runs es room (chars text))
  unfolding runs utf8
  runs_fit text n h u = go (chars text) u (runs_by_line text n h u).fit
    where
      go : (cs : List (List ℕ)) → T (all is_char cs) → AllFit (fits_room es room) 0 (cut (fits_room es room) 0 [] cs) → AllFit (fits_room es room) 0 (runs es room cs)
      go [] t f = tt
      go (c ∷ cs) t f = rw (runs_cut n h c cs (and_yes (is_char c) (all is_char cs) t).0) f

  runs_fewest : (text : List ℕ) → T (nonempty es) → 12 ≤ room → T (utf8 text) → (ws : List Word) → AllProper es (room + 12) ws → added_text ws ≡ text
      → length (runs es room (chars text)) ≤ length ws
  unfolding runs utf8
  runs_fewest text n h u ws p e = go (chars text) refl u
    where
      on_lines : (k : ℕ) (ws : List Word) → AllProper es (room + 12) ws → OnLines (λ _. room) k ws (length ws)
      on_lines k [] p = OnLines.end
      on_lines k (w ∷ ws) p = OnLines.word {k = k} {w = w} (omega (arith, length_word w, (first_proper p).short)) (on_lines (suc k) ws (rest_proper p))

      some_words : (c : List ℕ) (cs : List (List ℕ)) → chars text ≡ c ∷ cs → (ws : List Word) → added_text ws ≡ text → 0 < length ws
      some_words c cs q [] e = absurd (nil≢cons (sym (chars_nil) ∙ ap chars e ∙ q))
      some_words c cs q (w ∷ ws) e = omega arith

      go : (cs : List (List ℕ)) → chars text ≡ cs → T (all is_char cs) → length (runs es room cs) ≤ length ws
      go [] q t = omega arith
      go (c ∷ cs) q t =
          rw (runs_cut n h c cs (and_yes (is_char c) (all is_char cs) t).0, ← q)
          ((runs_by_line text n h u).fewest_lines (room + 12) (length ws) ws p e (on_lines 0 ws p) (some_words c cs q ws e))

-- ---- our words

module _ (es : List Encoding) (room : ℕ) where
  pub ours_text : (ls : List (List ℕ)) → added_text (map (ours_in es room) ls) ≡ joined ls
  ours_text [] = refl
  ours_text (l ∷ ls) = rw (ours_text ls) refl

  -- a run that fits makes a proper word, of any limit that its room allows
  pub our_proper : (limit k : ℕ) (r : List (List ℕ)) → room + 12 ≤ limit → T (fits_room es room k r) → T (all is_char r) → Proper es limit (ours_in es room (joined r))
  our_proper limit k r l f h =
      let c = chosen_holds es room k r f in record {
        allowed = c.allowed;
        spelt = refl;
        short = omega (arith, l, length_word (ours_in es room (joined r)), c.small);
        whole = utf8_of r h;
      }

  pub ours_proper : (k : ℕ) (rs : List (List (List ℕ))) → AllFit (fits_room es room) k rs → T (all (all is_char) rs)
      → AllProper es (room + 12) (map (ours_in es room) (map joined rs))
  ours_proper k [] f h = none_proper
  ours_proper k (r ∷ rs) f h =
      let both = and_yes (all is_char r) (all (all is_char) rs) h in
      cons_proper (our_proper (room + 12) k r (omega arith) f.0 both.0) (ours_proper (suc k) rs f.1 both.1)

  -- the words of a text's row
  unfoldable pub row_words : List ℕ → List Word
  row_words text = map (ours_in es room) (map joined (runs es room (chars text)))

  -- it is laid out as these
  pub row_laid : (text : List ℕ) → T (utf8 text) → Laid (row_in es room text) (row_words text)
  unfolding row_in row_words
  row_laid text u =
      let rs = runs es room (chars text) in
      lines_laid es room (map joined rs)
      (all_joined is_byte (map joined rs) (rw (joined_map rs, runs_joined es room (chars text), chars_joined text) (utf8_bytes text u)))

  -- the row of a text, in any room that holds every character: a room of 12 does
  pub row_of : (text : List ℕ) → T (nonempty es) → 12 ≤ room → T (utf8 text) → RowOf es (room + 12) LaidWords text (row_in es room text) (length (row_words text))
  unfolding row_in row_words utf8
  row_of text n h u =
      let rs = runs es room (chars text) in record {
        words = row_words text;
        laid = (row_laid text u, refl);
        reads = ours_text (map joined rs) ∙ joined_map rs ∙ ap joined (runs_joined es room (chars text)) ∙ chars_joined text;
        proper = ours_proper 0 rs (runs_fit es room text n h u) (all_joined is_char rs (rw (runs_joined es room (chars text)) u));
      }

  length_words : (text : List ℕ) → length (row_words text) ≡ length (runs es room (chars text))
  unfolding row_words
  length_words text = rw (length-map (map joined (runs es room (chars text))) (ours_in es room), length-map (runs es room (chars text)) joined)

  -- Demand 3, over the encodings and the room. A room of 12 holds every character; the other 12 are the opening and the closing of a word.
  pub demand_3_in : (text : List ℕ) → T (nonempty es) → 12 ≤ room → T (utf8 text) → Demand3In es (room + 12) LaidWords text (row_in es room text)
  demand_3_in text n h u = record {
    count = length (row_words text);
    ours = row_of text n h u;
    fewest = λ other m r. rw (← r.laid.1, length_words text) (runs_fewest es room text n h u r.words r.proper r.reads);
  }

-- Demand 3.
pub demand_3 : (text : List ℕ) → T (utf8 text) → Demand3 text (row text)
demand_3 text u = demand_3_in encodings 63 text tt (lit≤ tt) u

-- Document 01's demand 3, of rows of words in Q alone.
pub demand_3_q : (text : List ℕ) → T (utf8 text) → Demand3In (Q ∷ []) 75 LaidWords text (row_in (Q ∷ []) 63 text)
demand_3_q text u = demand_3_in (Q ∷ []) 63 text tt (lit≤ tt) u

-- ---- the length of a word, and of its line

fit_mem : (es : List Encoding) (room : ℕ) {run : List (List ℕ)} (k : ℕ) {rs : List (List (List ℕ))} → AllFit (fits_room es room) k rs → Memᴰ run rs
    → T (fits_room es room k run)
fit_mem es room k f (Memᴰ.head {x} {xs} e) = rw e f.0
fit_mem es room {run = run} k f (Memᴰ.tail {x} {xs} m) = rw (fits_any_line es room k (suc k) run) (fit_mem es room (suc k) f.1 m)

run_some : (run : List (List ℕ)) → T (nonempty run) → T (all is_char run) → 1 ≤ length (joined run)
run_some [] n t = absurd n
run_some (c ∷ run) n t = omega (arith, length-append c (joined run), char_some c (and_yes (is_char c) (all is_char run) t).0)

-- "1 to 63 characters": what each word of a row has between its opening and its closing
pub run_length : (es : List Encoding) (room : ℕ) (text : List ℕ) → T (nonempty es) → 12 ≤ room → T (utf8 text) → (run : List (List ℕ))
    → Memᴰ run (runs es room (chars text))
    → (1 ≤ length (ours_in es room (joined run)).standing) × (length (ours_in es room (joined run)).standing ≤ room)
unfolding utf8
run_length es room text n h u run m =
    let chosen_one = chosen_holds es room 0 run (fit_mem es room 0 (runs_fit es room text n h u) m) in (
      spell_in_some (chosen es room (joined run)) (joined run)
          (run_some run (all_mem nonempty (runs_some es room (chars text)) m)
          (all_mem (all is_char) (all_joined is_char (runs es room (chars text)) (rw (runs_joined es room (chars text)) u)) m)),
      chosen_one.small,
    )

-- "so such a line has at most 76 characters": its space and its word; 13 are the space, the opening and the closing
pub line_length : (text : List ℕ) → T (utf8 text) → (run : List (List ℕ)) → Memᴰ run (runs encodings 63 (chars text))
    → length (32 ∷ word_in encodings 63 (joined run)) ≤ 76
line_length text u run m =
    omega (arith, length_word_in (chosen encodings 63 (joined run)) (joined run), (run_length encodings 63 text tt (lit≤ tt) u run m).1)
