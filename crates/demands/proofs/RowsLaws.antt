-- Demand 3 of every row of sound segments, and the promise of every parameter; and that two rows, one straight after the other, read back as their two texts joined.
use Rattle.std.specs.Prelude.{◌≡◌, refl, Bool, false, ℕ, T, length, get_or}
use Rattle.std.proofs.Common.{sym, ◌∙◌, arith}
use Rattle.std.proofs.Math.Path.{ap}
use mathlib.Core.List.{List, [], ◌∷◌, ◌++◌, append_assoc, map, Memᴰ}
use Rattle.lists.specs.Lists.{all, joined}
use Rattle.lists.specs.ListsLaws.{all_mem}
use Rattle.utf8.specs.Utf8.{chars, utf8}
use Rattle.row.specs.declared.Encoding.{Encoding}
use Rattle.row.specs.declared.Encoding.TheVariants.{Q, B}
use Rattle.word_spelling.specs.Spelling.{closing}
use Rattle.row.specs.Word.{opening_in}
use Rattle.row.specs.Row.{encodings, runs, lines, row_in, row, row_after}
use Rattle.row.specs.Layout.{Word, word_bytes, LaidAfter, added_text}
use Rattle.row.specs.Layout.LaidAfter.{empty, space, crlf, word}
use Rattle.row.proofs.Demand3Laws.{demand_3}
use Rattle.encoded_word.specs.Segments.{Segment, bytes_of, rendered, sound}
use Rattle.encoded_word.specs.Segments.Segment.{words, labelled, parameter}
use Rattle.encoded_word.specs.SegmentsLaws.{rendered_append, words_demand_3, labelled_demand_3, parameter_promise}
use Rattle.mime_parameter.specs.Pieces.{pieces, parameter_lines}
use Rattle.demands.specs.Demands.{DemandThree}
use Rattle.demands.specs.ReadsBack.{ReadsBack}

mem_at : (before : List Segment) (s : Segment) (after : List Segment) → Memᴰ s (before ++ (s ∷ after))
mem_at [] s after = Memᴰ.head refl
mem_at (x ∷ before) s after = Memᴰ.tail (mem_at before s after)

mem_next : (before : List Segment) (s t : Segment) (after : List Segment) → Memᴰ t (before ++ (s ∷ t ∷ after))
mem_next [] s t after = Memᴰ.tail (Memᴰ.head refl)
mem_next (x ∷ before) s t after = Memᴰ.tail (mem_next before s t after)

-- ---- two rows

opens : (e : Encoding) (inner more : List ℕ) → get_or ((opening_in e ++ inner) ++ more) 0 0 ≡ 61
opens Q inner more = refl
opens B inner more = refl

-- a row, or what is left of one, that no word opens may stand straight after a word too
laid_apart : {row : List ℕ} {ws : List Word} → LaidAfter false row ws → (get_or row 0 0 ≡ 61 → ⊥) → (straight : Bool) → LaidAfter straight row ws
laid_apart empty n straight = empty
laid_apart (space l) n straight = space l
laid_apart (crlf l) n straight = crlf l
laid_apart (word {row = rest} {w = w} r l) n straight = absurd (n (opens w.encoding (w.standing ++ closing) rest))

-- our rows are such
lines_apart : (es : List Encoding) (room : ℕ) (ls : List (List ℕ)) → get_or (lines es room ls) 0 0 ≡ 61 → ⊥
unfolding lines
lines_apart es room [] e = omega arith
lines_apart es room (l ∷ ls) e = omega arith

row_apart : (text : List ℕ) → get_or (row text) 0 0 ≡ 61 → ⊥
unfolding row_in
row_apart text e = lines_apart encodings 63 (map joined (runs encodings 63 (chars text))) e

-- a row and another one straight after it
laid_append : {straight : Bool} {a b : List ℕ} {ws vs : List Word} → LaidAfter straight a ws → ((s : Bool) → LaidAfter s b vs) → LaidAfter straight (a ++ b) (ws ++ vs)
laid_append {straight} empty l = l straight
laid_append (space k) l = space (laid_append k l)
laid_append (crlf k) l = crlf (laid_append k l)
laid_append {b = b} (word {row = rest} {w = w} r k) l = rw (append_assoc (word_bytes w) rest b) (word {w = w} r (laid_append k l))

added_append : (ws vs : List Word) → added_text (ws ++ vs) ≡ added_text ws ++ added_text vs
added_append [] vs = refl
added_append (w ∷ ws) vs = rw (added_append ws vs) (sym (append_assoc w.added (added_text ws) (added_text vs)))

pub rows_joined : (a b : List ℕ) → T (utf8 a) → T (utf8 b) → ReadsBack (a ++ b) (row a ++ row b)
rows_joined a b u v =
    let first = (demand_3 a u).ours in
    let second = (demand_3 b v).ours in
    record {
      words = first.words ++ second.words;
      laid = laid_append first.laid.0 (laid_apart second.laid.0 (row_apart b));
      reads = added_append first.words second.words ∙ rw (first.reads, second.reads);
    }

-- ---- segments

module _ {Written : List Segment → Type 0} {h' : List ℕ} (segments : List Segment) (right : T (all sound segments)) (is : h' ≡ rendered segments)
    (only : (ss : List Segment) → Written ss → ss ≡ segments) where
  there : (before : List Segment) (s : Segment) (after : List Segment) → Written (before ++ (s ∷ after)) → h' ≡ rendered before ++ (bytes_of s ++ rendered after)
  unfolding rendered
  there before s after w = is ∙ ap rendered (sym (only (before ++ (s ∷ after)) w)) ∙ rendered_append before (s ∷ after)

  asked : (before : List Segment) (s : Segment) (after : List Segment) → Written (before ++ (s ∷ after)) → Memᴰ s segments
  asked before s after w = rw (only (before ++ (s ∷ after)) w) at (mem_at before s after)

  pub rows_right : DemandThree Written h'
  unfolding parameter_lines
  rows_right = record {
    alone = λ before text after w. (row text, there before (words text) after w, words_demand_3 segments text right (asked before (words text) after w));
    after_label = λ before label text after w.
        let at = there before (labelled label text) after w ∙ ap (λ (l : List ℕ). rendered before ++ l) (append_assoc label (row_after (length label) text) (rendered after)) in
        (row_after (length label) text, at, labelled_demand_3 segments label text right (asked before (labelled label text) after w));
    converted = λ before name text after w.
        (pieces name text, there before (parameter name text) after w, parameter_promise segments name text right (asked before (parameter name text) after w));
  }

  -- "an encoded phrase and the row straight after it together read back as the two texts joined"
  pub rows_together : (before : List Segment) (phrase next : List ℕ) (after : List Segment) → Written (before ++ (words phrase ∷ words next ∷ after))
      → (rows : List ℕ) × (h' ≡ rendered before ++ (rows ++ rendered after)) × ReadsBack (phrase ++ next) rows
  unfolding rendered
  rows_together before phrase next after w =
      let first = all_mem sound right (asked before (words phrase) (words next ∷ after) w) in
      let second = all_mem sound right (rw (only (before ++ (words phrase ∷ words next ∷ after)) w) at (mem_next before (words phrase) (words next) after)) in
      let at = there before (words phrase) (words next ∷ after) w ∙ ap (λ (l : List ℕ). rendered before ++ l) (sym (append_assoc (row phrase) (row next) (rendered after))) in
      (row phrase ++ row next, at, rows_joined phrase next first second)
