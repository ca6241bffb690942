-- The row of a text, word by word: laws for a loop that finds where each word ends.
use Rattle.std.specs.Prelude.{◌≡◌, Bool, true, not, ◌||◌, ℕ, zero, suc, ◌+◌, ◌-◌, ◌*◌, ◌/◌, ◌≤◌, ◌<◌, min, T, leb, take, drop, get_or}
use Rattle.std.proofs.Math.Path.{refl, sym, ap}
use Rattle.std.proofs.Common.{◌∙◌, arith, T_not, le→leb, length-append, length-take, length-drop, take-add, drop-drop}
use Rattle.std.proofs.Math.Bool.{false}
use mathlib.Core.List.{List, [], ◌∷◌, ◌++◌, append_assoc, append-nil, map}
use Rattle.std.proofs.Math.Numerals.{unary_clauses}
use Rattle.std.proofs.Math.ListN.{length}
use Rattle.std.proofs.Math.Facts.{and_yes, leb_yes, no_leb}
use Rattle.lists.specs.Lists.{all, nonempty, joined}
use Rattle.lists.specs.ListsLaws.{cond_yes, cond_no, joined_append}
use Rattle.utf8.specs.Utf8.{char_len, chars}
use Rattle.utf8.specs.Utf8Laws.{chars_short, chars_some, chars_at, chars_end, char_len_some}
use Rattle.cut.specs.Cut.{cut}
use Rattle.cut.proofs.CutLaws.{cut_run, lines_below, Full, cut_full}
use Rattle.base64_digits.proofs.Base64Laws.{length_base64}
use Rattle.word_spelling.specs.Cost.{cost}
use Rattle.word_spelling.specs.SpellingLaws.{length_spell_joined}
use Rattle.word_spelling.specs.HighCharLaws.{char_cut}
use Rattle.row.specs.declared.Encoding.{Encoding}
use Rattle.row.specs.declared.Encoding.TheVariants.{Q, B}
use Rattle.row.specs.Word.{spell_in, word}
use Rattle.row.specs.Row.{encodings, holds, fits_room, runs, chosen, lines, row_in, row, fits_after, runs_after, lines_after, row_after_in, row_after}
use Rattle.row.proofs.FitsLaws.{or_left, or_right, fits_any_line, fits_part, fits_after_part, short_fits, chosen_holds}
use Rattle.row.specs.WordEnd.{Span, WordEnd}
use Rattle.row.specs.WordEndLaws.{between}

-- ---- the lines of a row, one after another

module _ (es : List Encoding) (room : ℕ) where
  -- on whichever lines
  cut_same : (k j : ℕ) (run cs : List (List ℕ)) → cut (fits_room es room) k run cs ≡ cut (fits_room es room) j run cs
  unfolding cut
  cut_same k j run [] = refl
  cut_same k j run (c ∷ cs) = rw (cut_same k j (run ++ (c ∷ [])) cs, cut_same (suc k) (suc j) (c ∷ []) cs, fits_any_line es room k j (run ++ (c ∷ []))) refl

  below_runs : (k : ℕ) (cs : List (List ℕ)) → lines_below (fits_room es room) k cs ≡ runs es room cs
  unfolding lines_below runs
  below_runs k [] = refl
  below_runs k (c ∷ cs) = cut_same (suc k) 0 (c ∷ []) cs

  -- a word, and the words of what is left
  pub runs_step : (run rest : List (List ℕ)) → T (nonempty run) → T (fits_room es room 0 run) → Full (fits_room es room) 0 run rest
      → runs es room (run ++ rest) ≡ run ∷ runs es room rest
  unfolding runs
  runs_step [] rest n t full = absurd n
  runs_step (c ∷ run) rest n t full =
      cut_run (fits_room es room) (fits_part es room) 0 (c ∷ []) run rest t
      ∙ cut_full (fits_room es room) 0 (c ∷ run) rest full ∙ ap (λ (l : List (List (List ℕ))). (c ∷ run) ∷ l) (below_runs 0 rest)

  module _ (column : ℕ) where
    pub cut_later : (k j : ℕ) (run cs : List (List ℕ)) → cut (fits_after es room column) (suc k) run cs ≡ cut (fits_room es room) j run cs
    unfolding cut
    cut_later k j run [] = refl
    cut_later k j run (c ∷ cs) = rw (cut_later k j (run ++ (c ∷ [])) cs, cut_later (suc k) (suc j) (c ∷ []) cs, fits_any_line es room (suc k) j (run ++ (c ∷ []))) refl

    below_after : (cs : List (List ℕ)) → lines_below (fits_after es room column) 0 cs ≡ runs es room cs
    unfolding lines_below runs
    below_after [] = refl
    below_after (c ∷ cs) = cut_later 0 0 (c ∷ []) cs

    -- the name's line, and the words of what is left
    pub runs_after_step : (run rest : List (List ℕ)) → T (fits_after es room column 0 run) → Full (fits_after es room column) 0 run rest
        → runs_after es room column (run ++ rest) ≡ run ∷ runs es room rest
    unfolding runs_after
    runs_after_step run rest t full =
        cut_run (fits_after es room column) (fits_after_part es room column) 0 [] run rest t
        ∙ cut_full (fits_after es room column) 0 run rest full ∙ ap (λ (l : List (List (List ℕ))). run ∷ l) (below_after rest)

-- ---- whole characters from place to place

drop_min : (n : ℕ) (l : List ℕ) → drop (min n (length l)) l ≡ drop n l
drop_min zero l = simp unary_clauses
drop_min (suc n) [] = simp unary_clauses
drop_min (suc n) (x ∷ l) = simp unary_clauses (drop_min n l)

pub span_none : (s : List ℕ) (i : ℕ) → i ≤ length s → Span s i i
span_none s i h =
    let none : i - i ≡ 0 = omega arith in
    record { run = []; ahead = omega arith; within = h; joins = refl; bytes = rw none refl }

-- one character, which ends at place e
pub span_char : (s : List ℕ) (i e : ℕ) → i < length s → e ≡ min (i + char_len (get_or s i 0)) (length s) → Span s i e
span_char s i e h he =
    let n = char_len (get_or s i 0) in
    let front : take n (drop i s) ≡ take (e - i) (drop i s) = sym (char_cut s i e he) in
    let back : drop (i + n) s ≡ drop e s = sym (drop_min (i + n) s) ∙ ap (λ (k : ℕ). drop k s) (sym he) in
    record {
      run = take (e - i) (drop i s) ∷ [];
      ahead = omega (arith, char_len_some (get_or s i 0));
      within = omega arith;
      joins = rw (chars_at s i h, front, back) refl;
      bytes = append-nil (take (e - i) (drop i s));
    }

pub span_join : {s : List ℕ} {i e e' : ℕ} → Span s i e → Span s e e' → Span s i e'
span_join {s} {i} {e} {e'} p r =
    let there : i + (e - i) ≡ e = omega (arith, p.ahead) in
    let size : e - i + (e' - e) ≡ e' - i = omega (arith, p.ahead, r.ahead) in
    record {
      run = p.run ++ r.run;
      ahead = omega (arith, p.ahead, r.ahead);
      within = r.within;
      joins = p.joins ∙ rw r.joins (sym (append_assoc p.run r.run (chars (drop e' s))));
      bytes = joined_append p.run r.run ∙ rw (p.bytes, r.bytes, ← size, take-add, drop-drop, there) refl;
    }

pub length_span : {s : List ℕ} {i e : ℕ} (p : Span s i e) → length (joined p.run) ≡ e - i
length_span {s} {i} {e} p = ap length p.bytes ∙ rw length-take (omega (arith, length-drop i s, p.ahead, p.within))

or_none : (a b : Bool) → T (not a) → T (not b) → T (not (a || (b || false)))
or_none true b t u = absurd t
or_none false true t u = absurd u
or_none false false t u = tt

module _ (room : ℕ) (s : List ℕ) (i e : ℕ) (p : Span s i e) where
  same_cost : cost (joined p.run) ≡ cost (between s i e)
  same_cost = ap cost p.bytes

  -- neither encoding holds the character c too
  over : (c : List ℕ) → room < cost (between s i e) + cost c → 3 * (room / 4) < e - i + length c → T (not (fits_room encodings room 0 (p.run ++ (c ∷ []))))
  over c h k =
      let run = joined (p.run ++ (c ∷ [])) in
      let size : length run ≡ e - i + length c = rw (joined_append p.run (c ∷ []), append-nil, length-append) (omega (arith, length_span p)) in
      let dear : cost run ≡ cost (between s i e) + cost c = length_spell_joined p.run (c ∷ []) ∙ rw append-nil (omega (arith, same_cost)) in
      or_none (holds room run Q) (holds room run B) (no_leb {a = cost run} {b = room} (omega (arith, h, dear)))
      (no_leb {a = length (spell_in B run)} {b = room} (omega (arith, k, size, length_base64 run)))

  -- in Q: it holds these characters, and neither encoding holds one more
  pub word_end_q : cost (between s i e) ≤ room
      → ((c : List ℕ) (cs : List (List ℕ)) → chars (drop e s) ≡ c ∷ cs → (room < cost (between s i e) + cost c) × (3 * (room / 4) < e - i + length c))
      → WordEnd room s i e Q
  unfolding chosen
  word_end_q h full = record {
    span = p;
    fits = or_left (holds room (joined p.run) Q) _ (le→leb (cost (joined p.run)) room (omega (arith, h, same_cost)));
    full = λ c cs k. over c (full c cs k).0 (full c cs k).1;
    kind = sym (cond_yes (holds room (between s i e) Q) Q _ (le→leb (cost (between s i e)) room h));
  }

  -- in B: Q does not hold these characters, B does, and does not hold one more
  pub word_end_b : room < cost (between s i e) → e - i ≤ 3 * (room / 4)
      → ((c : List ℕ) (cs : List (List ℕ)) → chars (drop e s) ≡ c ∷ cs → 3 * (room / 4) < e - i + length c)
      → WordEnd room s i e B
  unfolding chosen
  word_end_b h k full =
      let size : length (between s i e) ≡ e - i = ap length (sym p.bytes) ∙ length_span p in
      let small : length (spell_in B (between s i e)) ≤ room = omega (arith, k, size, length_base64 (between s i e)) in
      record {
        span = p;
        fits = or_right (holds room (joined p.run) Q) _ (or_left (holds room (joined p.run) B) false (rw p.bytes (le→leb (length (spell_in B (between s i e))) room small)));
        full = λ c cs l. over c (omega (arith, h)) (full c cs l);
        kind = sym (cond_no (holds room (between s i e) Q) Q _ (no_leb {a = cost (between s i e)} {b = room} h)
            ∙ cond_yes (holds room (between s i e) B) B _ (le→leb (length (spell_in B (between s i e))) room small));
      }

-- ---- the row by its words

-- at a place of a text, or past its end, there is no word
pub row_end : (s : List ℕ) (i : ℕ) → length s ≤ i → row (drop i s) ≡ []
unfolding row_in runs lines
row_end s i h = rw (chars_end s i h) refl

module _ {room : ℕ} {s : List ℕ} {i e : ℕ} {k : Encoding} (w : WordEnd room s i e k) where
  -- what stands between the brackets is no longer than the room
  pub word_small : length (spell_in k (between s i e)) ≤ room
  word_small = rw w.kind (rw w.span.bytes at (chosen_holds encodings room 0 w.span.run w.fits).small)

one_fits : (text c : List ℕ) (cs : List (List ℕ)) → chars text ≡ c ∷ cs → T (fits_room encodings 63 0 (c ∷ []))
one_fits text c cs e =
    short_fits 0 c (leb_yes (and_yes (leb (length c) 8) (all (λ c. leb (length c) 8) cs) (rw e at (chars_short text))).0)

module _ {s : List ℕ} {i e : ℕ} {k : Encoding} (w : WordEnd 63 s i e k) (h : i < length s) where
  some_run : (run : List (List ℕ)) → chars (drop i s) ≡ run ++ chars (drop e s) → Full (fits_room encodings 63) 0 run (chars (drop e s)) → T (nonempty run)
  some_run [] j full =
      let c = take (char_len (get_or s i 0)) (drop i s) in
      let a = chars_at s i h in
      absurd (T_not (fits_room encodings 63 0 (c ∷ [])) (full c _ (sym j ∙ a)) (one_fits (drop i s) c _ a))
  some_run (c ∷ run) j full = tt

  -- a word on a line of its own, and the row of what is left
  pub line_step : row (drop i s) ≡ (13 ∷ 10 ∷ 32 ∷ word k (between s i e)) ++ row (drop e s)
  unfolding row_in lines
  line_step =
      let p = w.span in
      rw (p.joins, runs_step encodings 63 p.run (chars (drop e s)) (some_run p.run p.joins w.full) w.fits w.full, p.bytes, ← w.kind) refl

  pub line_more : i < e
  line_more = go w.span.run w.span.joins (some_run w.span.run w.span.joins w.full) (length_span w.span)
    where
      char_size : (c : List ℕ) → T (nonempty c) → 0 < length c
      char_size [] n = absurd n
      char_size (b ∷ c) n = omega arith

      go : (run : List (List ℕ)) → chars (drop i s) ≡ run ++ chars (drop e s) → T (nonempty run) → length (joined run) ≡ e - i → i < e
      go [] j n l = absurd n
      go (c ∷ run) j n l =
          let t = (and_yes (nonempty c) (all nonempty (run ++ chars (drop e s))) (rw j at (chars_some (drop i s)))).0 in
          omega (arith, l, length-append c (joined run), char_size c t)

-- ---- the row after a name and its colon

module _ (column : ℕ) {s : List ℕ} {e : ℕ} {k : Encoding} (w : WordEnd (63 - column) s 0 e k) where
  first_run : runs_after encodings 63 column (chars s) ≡ w.span.run ∷ runs encodings 63 (chars (drop e s))
  first_run = ap (runs_after encodings 63 column) w.span.joins ∙ runs_after_step encodings 63 column w.span.run (chars (drop e s)) w.fits w.full

  -- a word on the name's line, and the row of what is left
  pub first_step : 0 < e → row_after column s ≡ (32 ∷ word k (between s 0 e)) ++ row (drop e s)
  unfolding row_after_in lines_after row_in
  first_step h = rw first_run (go (joined w.span.run) w.span.bytes (length_span w.span))
    where
      go : (l : List ℕ) → l ≡ between s 0 e → length l ≡ e - 0
          → lines_after encodings 63 column (l ∷ map joined (runs encodings 63 (chars (drop e s)))) ≡ (32 ∷ word k (between s 0 e)) ++ row (drop e s)
      go [] m n = absurd (omega (arith, n, h))
      go (b ∷ l) m n = rw (m, ← w.kind) refl

  -- no character fits the name's line
  pub first_none : e ≡ 0 → row_after column s ≡ row s
  unfolding row_after_in lines_after row_in
  first_none h = rw first_run (go (joined w.span.run) (length_span w.span))
    where
      go : (l : List ℕ) → length l ≡ e - 0 → lines_after encodings 63 column (l ∷ map joined (runs encodings 63 (chars (drop e s)))) ≡ row s
      go [] n = rw h refl
      go (b ∷ l) n = absurd (omega (arith, n, h))
