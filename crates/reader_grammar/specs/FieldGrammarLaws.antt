-- What a field is shown as by the grammar is what code shows, and nothing else.
use Rattle.std.specs.Prelude.{◌≡◌, Bool, true, false, not, cond, ℕ, zero, suc, ◌≤◌, ◌<◌, min, T, eqb, leb, ltb, length, take, get_or}
use Rattle.std.proofs.Math.Path.{refl, ap}
use Rattle.std.proofs.Common.{sym, ◌∙◌, arith, T_not, length-drop, take-append-drop, drop-drop, take_all, length-take-le, ne_eqb}
use mathlib.Core.List.{List, [], ◌∷◌, ◌++◌, append_assoc, append-nil}
use Rattle.std.proofs.Math.ListN.{drop}
use Rattle.std.proofs.Math.Facts.{and_yes, yes_and, leb_yes, leb_no, ltb_yes, ltb_no, eqb_no}
use Rattle.lists.specs.Lists.{all}
use Rattle.lists.specs.ListsLaws.{by_test, yes_true, no_false, all_left, all_right, all_weaken}
use Rattle.lists.specs.Run.{run}
use Rattle.lists.specs.RunLaws.{run_le, run_all}
use Rattle.line.specs.Line.{blank}
use Rattle.header.specs.Fields.{value_of, text_of}
use Rattle.header.specs.FieldShape.{without_breaks}
use Rattle.word_reader.specs.Word.{is_word}
use Rattle.word_grammar.specs.WordGrammar.{WordShows}
use Rattle.word_grammar.specs.WordGrammarLaws.{word_shows, shows_word}
use Rattle.std.specs.Prelude.{Ok, Err}
use Rattle.std.specs.declared.result.Result.{Result}
use Rattle.downgraded_field.specs.declared.FieldFault.{FieldFault}
use Rattle.downgraded_field.specs.declared.FieldFault.TheVariants.{Malformed}
use Rattle.downgraded_field.specs.Shown.{is_formed, spacing, solid, Turn, turn_size, turn_at, turns_of, turn_text, shown, word_number, turn_number, lowest, field_turns, field_text, of_number, field_read}
use Rattle.downgraded_field.specs.ShownLaws.{turn_of, turns_front, turns_nil, low}
use Rattle.reader_grammar.specs.FieldGrammar.{RunBefore, TextShows, FieldShows}
use Rattle.reader_grammar.specs.FieldLinesLaws.{lines_taken, lines_found}
use Rattle.reader_grammar.specs.TurnLaws.{Follows, turn_cut, turn_last}
use Rattle.reader_grammar.specs.FoldLaws.{Folded, no_break, solid_not_blank, breaks_append, solid_breaks, blank_breaks, gap_blank, breaks_none, folded_run, folded_follows, after_gap, value_folded, folded_start, text_is}

-- ---- turns, and the number and text that they are shown as

record ShownAs (after : Bool) (turns : List Turn) (n : ℕ) (text : List ℕ) : Type 0 where
  pub number : lowest turns ≡ n
  pub text_is : n ≡ 5 → shown after turns ≡ text

none_as : (after : Bool) → ShownAs after [] 5 []
unfolding lowest shown
none_as after = record { number = refl; text_is = λ e. refl }

other_as : (after : Bool) (gap run : List ℕ) {turns : List Turn} {n : ℕ} {text : List ℕ} → is_word run ≡ false → ShownAs false turns n text
    → ShownAs after (turn_of gap run ∷ turns) n (without_breaks gap ++ (run ++ text))
unfolding lowest shown turn_text turn_number
other_as after gap run {turns} w s = record {
  number = rw w (omega (arith, low turns, s.number));
  text_is = λ e. rw (w, s.text_is e) (append_assoc (without_breaks gap) run _);
}

word_number_lem : {run text : List ℕ} {n : ℕ} → WordShows run n text → word_number run ≡ n
unfolding word_number
word_number_lem s = sym (shows_word s).1

pub word_range : {run text : List ℕ} {n : ℕ} → WordShows run n text → (2 ≤ n) × (n ≤ 5)
word_range (WordShows.malformed t f) = (omega arith, omega arith)
word_range (WordShows.other_charset d c) = (omega arith, omega arith)
word_range (WordShows.not_utf8 d c u) = (omega arith, omega arith)
word_range (WordShows.text d c u) = (omega arith, omega arith)

module _ (gap run : List ℕ) {turns : List Turn} {n m : ℕ} {a text : List ℕ} (w : WordShows run n a) (s : ShownAs true turns m text) where
  least : (after : Bool) → lowest (turn_of gap run ∷ turns) ≡ min n m
  unfolding lowest turn_number
  least after = rw ((shows_word w).0, word_number_lem w, s.number) refl

  both_five : min n m ≡ 5 → (n ≡ 5) × (m ≡ 5)
  both_five e = let r = word_range w in let l = low turns in (omega (arith, s.number), omega (arith, s.number))

  word_as : ShownAs false (turn_of gap run ∷ turns) (min n m) (without_breaks gap ++ (a ++ text))
  unfolding shown turn_text
  word_as = record {
    number = least false;
    text_is = λ e. let f = both_five e in rw ((shows_word w).0, ← (shows_word w).2 f.0, s.text_is f.1) (append_assoc (without_breaks gap) a text);
  }

  adjacent_as : ShownAs true (turn_of gap run ∷ turns) (min n m) (a ++ text)
  unfolding shown turn_text
  adjacent_as = record {
    number = least true;
    text_is = λ e. let f = both_five e in rw ((shows_word w).0, ← (shows_word w).2 f.0, s.text_is f.1) refl;
  }

-- ---- the grammar shows one thing

pub text_range : {after : Bool} {y text : List ℕ} {n : ℕ} → TextShows after y n text → (2 ≤ n) × (n ≤ 5)
text_range (TextShows.end gap b) = (omega arith, omega arith)
text_range (TextShows.other gap b r w s) = text_range s
text_range (TextShows.word gap b r w s) = let p = word_range w in let q = text_range s in (omega arith, omega arith)
text_range (TextShows.adjacent gap b r w s) = let p = word_range w in let q = text_range s in (omega arith, omega arith)

blank_spacing : (b : ℕ) → T (blank b) → T (spacing b)
unfolding spacing
blank_spacing b t = rw (yes_true (blank b) t) tt

solid_of : (b : ℕ) → T (not (blank b)) → T (no_break b) → T (solid b)
unfolding spacing
solid_of b t u = rw (no_false (blank b) t) u

run_solid : (run : List ℕ) → T (all (λ b. not (blank b)) run) → T (all no_break run) → T (all solid run)
run_solid [] t u = tt
run_solid (b ∷ run) t u =
    let p = and_yes (not (blank b)) (all (λ b. not (blank b)) run) t in
    let q = and_yes (no_break b) (all no_break run) u in
    yes_and (solid b) (all solid run) (solid_of b p.0 q.0) (run_solid run p.1 q.1)

follows_of : (rest : List ℕ) → T (all blank (take 1 rest)) → Follows rest
follows_of [] t = Follows.nothing
follows_of (b ∷ rest) t = Follows.space (blank_spacing b (and_yes (blank b) true t).0)

cut_of : (gap run rest : List ℕ) → T (all blank gap) → RunBefore rest run → T (all no_break (gap ++ (run ++ rest))) → turns_of (gap ++ (run ++ rest)) ≡ turn_of gap run ∷ turns_of rest
cut_of gap run rest b r u =
    turn_cut gap run rest (all_weaken blank spacing blank_spacing gap b) (run_solid run r.solid (all_left no_break run rest (all_right no_break gap (run ++ rest) u))) r.some (follows_of rest r.ends)

rest_clean : (gap run rest : List ℕ) → T (all no_break (gap ++ (run ++ rest))) → T (all no_break rest)
rest_clean gap run rest u = all_right no_break run rest (all_right no_break gap (run ++ rest) u)

not_word : is_word [] ≡ false
unfolding is_word
not_word = refl

last_as : (after : Bool) (gap : List ℕ) → ShownAs after (turn_of gap [] ∷ []) 5 (without_breaks gap)
last_as after gap = rw (append-nil (without_breaks gap)) at (other_as after gap [] not_word (none_as false))

end_as : (after : Bool) (gap : List ℕ) → T (all spacing gap) → ShownAs after (turns_of gap) 5 (without_breaks gap)
unfolding without_breaks
end_as after [] t = rw turns_nil (none_as after)
end_as after (b ∷ gap) t = rw (turn_last (b ∷ gap) t (omega arith)) (last_as after (b ∷ gap))

shows_as : {after : Bool} {y text : List ℕ} {n : ℕ} → TextShows after y n text → T (all no_break y) → ShownAs after (turns_of y) n text
shows_as {after} (TextShows.end gap b) u = rw (blank_breaks gap b) at (end_as after gap (all_weaken blank spacing blank_spacing gap b))
shows_as {after} (TextShows.other gap {run} {rest} b r w s) u =
    rw (cut_of gap run rest b r u) (rw (blank_breaks gap b) at (other_as after gap run (no_false (is_word run) w) (shows_as s (rest_clean gap run rest u))))
shows_as (TextShows.word gap {run} {rest} b r w s) u =
    rw (cut_of gap run rest b r u) (rw (blank_breaks gap b) at (word_as gap run w (shows_as s (rest_clean gap run rest u))))
shows_as (TextShows.adjacent gap {run} {rest} b r w s) u =
    rw (cut_of gap run rest b r u) (adjacent_as gap run w (shows_as s (rest_clean gap run rest u)))

text_once : {after : Bool} {y s t : List ℕ} {n m : ℕ} → T (all no_break y) → TextShows after y n s → TextShows after y m t → (n ≡ m) × (n ≡ 5 → s ≡ t)
text_once u a b =
    let p = shows_as a u in
    let q = shows_as b u in
    let same = sym p.number ∙ q.number in
    (same, λ e. sym (p.text_is e) ∙ q.text_is (sym same ∙ e))

-- ---- what code shows, the grammar makes

record Made (after : Bool) (y : List ℕ) (turns : List Turn) : Type 0 where
  pub n : ℕ
  pub text : List ℕ
  pub shows : TextShows after y n text
  pub shown_as : ShownAs after turns n text

stops : (z : List ℕ) → T (all spacing (take 1 (drop (run solid z) z)))
unfolding run
stops [] = tt
stops (b ∷ z) =
    by_test (spacing b)
    (λ t. rw (yes_true (spacing b) t) (yes_and (spacing b) true t tt))
    (λ t. rw (no_false (spacing b) t) (stops z))

run_some : (z : List ℕ) → 0 < length z → spacing (get_or z 0 0) ≡ false → 0 < run solid z
unfolding run
run_some [] k e = absurd (omega arith)
run_some (b ∷ z) k e = rw e (omega arith)

-- the turn at the front of a value with folds
module _ (x : List ℕ) where
  abbrev gap_of : List ℕ
  gap_of = take (run spacing x) x

  abbrev rest_of : List ℕ
  rest_of = drop (run spacing x) x

  abbrev run_of : List ℕ
  run_of = take (run solid rest_of) rest_of

  abbrev more_of : List ℕ
  more_of = drop (run solid rest_of) rest_of

  rest_is : rest_of ≡ run_of ++ more_of
  rest_is = sym (take-append-drop (run solid rest_of) rest_of)

  run_size : length run_of ≡ run solid rest_of
  run_size = length-take-le (run solid rest_of) rest_of (run_le solid rest_of)

  turns_are : 0 < length x → turns_of x ≡ turn_of gap_of run_of ∷ turns_of more_of
  unfolding turn_at turn_size
  turns_are k = turns_front x k ∙ ap (λ (l : List ℕ). turn_of gap_of run_of ∷ turns_of l) (sym (drop-drop (run solid rest_of) (run spacing x) x))

  text_parts : without_breaks x ≡ without_breaks gap_of ++ (run_of ++ without_breaks more_of)
  text_parts =
      let cut : x ≡ gap_of ++ rest_of = sym (take-append-drop (run spacing x) x) in
      let rest : without_breaks rest_of ≡ run_of ++ without_breaks more_of =
      ap without_breaks rest_is ∙ breaks_append run_of more_of ∙ ap (λ (l : List ℕ). l ++ without_breaks more_of) (solid_breaks run_of (run_all solid rest_of)) in
      ap without_breaks cut ∙ breaks_append gap_of rest_of ∙ ap (λ (l : List ℕ). without_breaks gap_of ++ l) rest

  module _ (f : Folded x) where
    more_folded : Folded more_of
    more_folded = folded_run (folded_start x f) run_of more_of rest_is (run_all solid rest_of)

    module _ (k : 0 < length rest_of) where
      first_solid : 0 < run solid rest_of
      first_solid = run_some rest_of k (after_gap x (omega (arith, k, length-drop (run spacing x) x)))

      run_before : RunBefore (without_breaks more_of) run_of
      run_before = record {
        some = omega (arith, run_size, first_solid);
        solid = all_weaken solid (λ b. not (blank b)) solid_not_blank run_of (run_all solid rest_of);
        ends = folded_follows more_folded (stops rest_of);
      }

      made_word : (after : Bool) → T (is_word run_of) → Made true (without_breaks more_of) (turns_of more_of) → Made after (without_breaks gap_of ++ (run_of ++ without_breaks more_of)) (turn_of gap_of run_of ∷ turns_of more_of)
      made_word false t m =
          let w = word_shows run_of t in
          record {
            n = min w.0 m.n;
            text = without_breaks gap_of ++ (w.1 ++ m.text);
            shows = TextShows.word (without_breaks gap_of) (gap_blank gap_of (run_all spacing x)) run_before w.2 m.shows;
            shown_as = word_as gap_of run_of w.2 m.shown_as;
          }
      made_word true t m =
          let w = word_shows run_of t in
          record {
            n = min w.0 m.n;
            text = w.1 ++ m.text;
            shows = TextShows.adjacent (without_breaks gap_of) (gap_blank gap_of (run_all spacing x)) run_before w.2 m.shows;
            shown_as = adjacent_as gap_of run_of w.2 m.shown_as;
          }

      made_other : (after : Bool) → T (not (is_word run_of)) → Made false (without_breaks more_of) (turns_of more_of)
          → Made after (without_breaks gap_of ++ (run_of ++ without_breaks more_of)) (turn_of gap_of run_of ∷ turns_of more_of)
      made_other after t m = record {
        n = m.n;
        text = without_breaks gap_of ++ (run_of ++ m.text);
        shows = TextShows.other (without_breaks gap_of) (gap_blank gap_of (run_all spacing x)) run_before t m.shows;
        shown_as = other_as after gap_of run_of (no_false (is_word run_of) t) m.shown_as;
      }

      made_turn : (after : Bool) → ((b : Bool) → Made b (without_breaks more_of) (turns_of more_of)) → Made after (without_breaks x) (turns_of x)
      made_turn after more =
          rw (text_parts, turns_are (omega (arith, k, length-drop (run spacing x) x)))
          (by_test (is_word run_of) (λ t. made_word after t (more true)) (λ t. made_other after t (more false)))

    -- white space to the end
    made_end : (after : Bool) → length rest_of ≤ 0 → Made after (without_breaks x) (turns_of x)
    made_end after k =
        let all_of : T (all spacing x) = rw (take_all (run spacing x) x (omega (arith, k, length-drop (run spacing x) x))) at (run_all spacing x) in
        record { n = 5; text = without_breaks x; shows = TextShows.end (without_breaks x) (gap_blank x all_of); shown_as = end_as after x all_of }

made : (m : ℕ) (x : List ℕ) → length x ≤ m → Folded x → (after : Bool) → Made after (without_breaks x) (turns_of x)
made zero x k f after = made_end x f after (omega (arith, length-drop (run spacing x) x))
made (suc m) x k f after =
    by_test (leb 1 (length (rest_of x)))
    (λ t.
    let some : 0 < length (rest_of x) = leb_yes t in
    let few : length (more_of x) ≤ m = omega (arith, first_solid x f some, length-drop (run solid (rest_of x)) (rest_of x), length-drop (run spacing x) x) in
    made_turn x f some after (λ b. made m (more_of x) few (more_folded x f) b))
    (λ t. made_end x f after (omega (arith, leb_no {a = 1} {b = length (rest_of x)} t)))

-- ---- a field

module _ (field : List ℕ) (t : T (is_formed field)) where
  field_made : Made false (text_of field) (field_turns field)
  unfolding field_turns
  field_made =
      let v = value_of field in
      let r = drop (run spacing v) v in
      rw (text_is field t) (made (length r) r (omega arith) (folded_start v (value_folded field t)) false)

  clean : T (all no_break (text_of field))
  clean = rw (text_is field t) (breaks_none (drop (run spacing (value_of field)) (value_of field)))

-- every field is shown as something
pub field_shown : (field : List ℕ) → (n : ℕ) × (text : List ℕ) × FieldShows field n text
field_shown field =
    by_test (is_formed field)
    (λ t.
    let m = field_made field t in
    let lines = lines_found field t in
    by_test (ltb m.n 5)
    (λ u. (m.n, [], FieldShows.refused lines m.shows (ltb_yes u)))
    (λ u.
    let five : m.n ≡ 5 = omega (arith, (text_range m.shows).1, ltb_no {a = m.n} {b = 5} u) in
    (0, m.text, FieldShows.text lines (rw five at m.shows))))
    (λ t. (1, [], FieldShows.malformed (λ l. T_not (is_formed field) t (lines_taken l))))

-- a number and a text, as code tells them
unfoldable pub read_of : ℕ → List ℕ → Result ℕ FieldFault
read_of n text = cond (eqb n 0) (Ok (length text)) (cond (eqb n 1) (Err Malformed) (of_number n 0))

of_number_lem : (n size : ℕ) → 2 ≤ n → n < 5 → of_number n size ≡ read_of n []
unfolding of_number read_of
of_number_lem n size k l =
    rw (ne_eqb n 0 (λ e. omega (arith, e)), ne_eqb n 1 (λ e. omega (arith, e)))
    (by_test (eqb n 2) (λ t. rw (yes_true (eqb n 2) t) refl)
    (λ t. by_test (eqb n 3) (λ u. rw (no_false (eqb n 2) t, yes_true (eqb n 3) u) refl)
    (λ u. let four : n ≡ 4 = omega (arith, eqb_no {a = n} {b = 2} t, eqb_no {a = n} {b = 3} u) in rw four refl)))

five_text : (size : ℕ) → of_number 5 size ≡ Ok size
unfolding of_number
five_text size = refl

-- and it is what code shows
pub field_read_lem : {field : List ℕ} {n : ℕ} {text : List ℕ} → FieldShows field n text → (field_read field ≡ read_of n text) × (n ≡ 0 → field_text field ≡ text)
unfolding field_read field_text read_of
field_read_lem {field} (FieldShows.malformed f) =
    let bad : T (not (is_formed field)) = by_test (is_formed field) (λ t. absurd (f (lines_found field t))) (λ t. t) in
    (rw (no_false (is_formed field) bad) refl, λ e. absurd (omega (arith, e)))
field_read_lem {field} (FieldShows.refused {n} l s k) =
    let t = lines_taken l in
    let m = field_made field t in
    let number : lowest (field_turns field) ≡ n = m.shown_as.number ∙ sym (text_once (clean field t) s m.shows).0 in
    let r = text_range s in
    (rw (yes_true (is_formed field) t, number) (of_number_lem n (length (shown false (field_turns field))) r.0 k), λ e. absurd (omega (arith, e, r.0)))
field_read_lem {field} (FieldShows.text {text} l s) =
    let t = lines_taken l in
    let m = field_made field t in
    let same = text_once (clean field t) s m.shows in
    let number : lowest (field_turns field) ≡ 5 = m.shown_as.number ∙ sym same.0 in
    let text_same : shown false (field_turns field) ≡ text = m.shown_as.text_is (sym same.0) ∙ sym (same.1 refl) in
    (rw (yes_true (is_formed field) t, number, text_same) (five_text (length text)), λ e. text_same)
