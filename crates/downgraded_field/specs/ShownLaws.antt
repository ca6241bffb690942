-- Laws of what a field is shown as, turn by turn, as code goes.
use Rattle.std.specs.Prelude.{◌≡◌, Bool, not, cond, ◌&&◌, ◌||◌, T, leb, eqb, take, drop, get_or, replicate}
use Rattle.std.proofs.Math.Path.{refl}
use Rattle.std.proofs.Common.{ap, sym, ◌∙◌, not-suc-le-zero, add-one, length-take, drop_of_length-le, drop-drop, drop-cons, length-take-le, eq-eqb, ne_eqb}
use Rattle.std.proofs.Math.Bool.{true, false}
use mathlib.Core.List.{List, [], ◌∷◌, ◌++◌, append-nil}
use Prim.Native.Nat.{ℕ, zero, suc, ◌+◌, ◌-◌, ◌≤◌, ◌<◌, min}
use native.Mathlib.Omega.{arith}
use Rattle.std.proofs.Math.ListN.{length, length-drop, length-append}
use Rattle.std.proofs.Math.Facts.{leb_yes, leb_no}
use Rattle.lists.specs.ListsLaws.{by_test, cond_has, yes_true, no_false, true_yes}
use Rattle.lists.specs.Run.{run}
use Rattle.lists.specs.RunLaws.{run_le}
use Rattle.buffer.specs.Buffer.{overlay, Wrote, AppendedCapped, ReachedCapped, greatest}
use Rattle.buffer.specs.BufferLaws.{overlay_front, capped_none, capped_then, capped_same, capped_start, capped_turn, capped_end, length_capped, length_wrote, wrote_of}
use Rattle.utf8.specs.Utf8.{utf8}
use Rattle.header.specs.Fields.{value_of}
use Rattle.header.specs.FieldShape.{without_breaks}
use Rattle.word_reader.specs.Each.{each}
use Rattle.word_reader.specs.EachLaws.{each_nil, each_front}
use Rattle.word_reader.specs.Word.{is_word, inner, is_parted, letter, standing, text_ok, is_utf8_charset, added, form_number}
use Rattle.word_reader.specs.WordLaws.{added_short}
use Rattle.downgraded_field.specs.Shown.{spacing, solid, Turn, turn_size, turn_at, turns_of, turn_text, shown, word_number, turn_number, lowest, is_formed, of_number, field_read, field_turns, field_text}
use Rattle.std.specs.Prelude.{Some, None, Ok, Err, ⊤, IsErrAnd}
use Rattle.std.specs.declared.option.Option.{Option}
use Rattle.std.specs.declared.result.Result.{Result}
use Rattle.word_reader.specs.declared.WordFault.{WordFault}
use Rattle.word_reader.specs.declared.WordFault.TheVariants.{Malformed as MalformedWord, Charset as CharsetOfWord}
use Rattle.word_reader.specs.WordFaults.{number_of as word_fault}
use Rattle.downgraded_field.specs.declared.FieldFault.{FieldFault}
use Rattle.downgraded_field.specs.declared.FieldFault.TheVariants.{Malformed, Word, Charset, NotUtf8}
use Rattle.downgraded_field.specs.FieldFaults.{number_of, number_so_far, of_word, ReadAs}

abbrev pub turn_of : List ℕ → List ℕ → Turn
turn_of gap run = record { gap = gap; run = run }

-- ---- turns

some_run : (b : ℕ) (s : List ℕ) (n : ℕ) → n ≡ run spacing (b ∷ s) → 0 < n + run solid (drop n (b ∷ s))
unfolding run
some_run b s zero e =
    by_test (spacing b)
    (λ t. let z : 0 ≡ suc (run spacing s) = rw (yes_true (spacing b) t) at e in absurd (omega arith))
    (λ t. rw (no_false (spacing b) t) (omega arith))
some_run b s (suc n) e = omega arith

turn_some : (s : List ℕ) → 0 < length s → 0 < turn_size s
unfolding turn_size
turn_some [] h = absurd (not-suc-le-zero h)
turn_some (b ∷ s) h = some_run b s (run spacing (b ∷ s)) refl

pub turns_front : (s : List ℕ) → 0 < length s → turns_of s ≡ turn_at s ∷ turns_of (drop (turn_size s) s)
unfolding turns_of
turns_front s h = each_front turn_size turn_at s h (turn_some s h)

pub turns_nil : turns_of [] ≡ []
unfolding turns_of
turns_nil = each_nil turn_size turn_at

turn_le : (s : List ℕ) → turn_size s ≤ length s
unfolding turn_size
turn_le s = let g = run spacing s in omega (arith, run_le spacing s, run_le solid (drop g s), length-drop g s)

-- runs that a scratch of 1,024 bytes holds
pub record ShortRuns (s : List ℕ) : Type 0 where
  pub short : (i : ℕ) → run solid (drop i s) ≤ 1024

pub short_rest : (n : ℕ) {s : List ℕ} → ShortRuns s → ShortRuns (drop n s)
short_rest n h = record { short = λ i. rw drop-drop (h.short (n + i)) }

-- the turn at the front, as code parts it from the rest
pub record Split (s gap run rest : List ℕ) : Type 0 where
  pub turns : turns_of s ≡ turn_of gap run ∷ turns_of rest
  pub size : length gap + length run + length rest ≡ length s
  pub some : length rest < length s
  pub fits : ShortRuns s → length run ≤ 1024
  pub short : ShortRuns s → ShortRuns rest

-- as a turn and what is left
turns_by : (x : List ℕ) {t : Turn} {rest : List ℕ} → turn_at x ≡ t → drop (turn_size x) x ≡ rest → 0 < length x → turns_of x ≡ t ∷ turns_of rest
turns_by x a b h = turns_front x h ∙ rw (a, b) refl

module _ (s : List ℕ) {g e : ℕ} {gap after part rest : List ℕ} (h : (length s ≡ 0) → ⊥) (p : g ≡ 0 + run spacing (drop 0 s)) (gap_is : gap ≡ take g s) (after_is : after ≡ drop g s)
    (q : e ≡ 0 + run solid (drop 0 after)) (run_is : part ≡ take e after) (rest_is : rest ≡ drop e after) where
  g_is : g ≡ run spacing s
  g_is = omega arith

  stands : after ≡ drop (run spacing s) s
  stands = after_is ∙ ap (λ (n : ℕ). drop n s) g_is

  e_is : e ≡ run solid (drop (run spacing s) s)
  e_is = let z : e ≡ run solid after = omega arith in z ∙ ap (run solid) stands

  turn_is : turn_at s ≡ turn_of gap part
  unfolding turn_at
  turn_is = rw (gap_is, run_is, stands, e_is, g_is) refl

  left_is : drop (turn_size s) s ≡ rest
  unfolding turn_size
  left_is = rw (rest_is, stands, e_is) (sym (drop-drop (run solid (drop (run spacing s) s)) (run spacing s) s))

  rest_from : rest ≡ drop (g + e) s
  rest_from = rest_is ∙ ap (drop e) after_is ∙ drop-drop e g s

  pub split_turn : Split s gap part rest
  split_turn =
      let full : 0 < length s = omega arith in
      let most = turn_le s in
      let to : length gap ≡ g = rw (gap_is, length-take) (omega (arith, g_is, run_le spacing s)) in
      let there : length after ≡ length s - g = rw (after_is, length-drop) refl in
      let size : length part ≡ e = rw (run_is, length-take) (omega (arith, q, run_le solid after)) in
      let end : length rest ≡ length after - e = rw (rest_is, length-drop) refl in
      record {
        turns = turns_by s turn_is left_is full;
        size = omega (arith, g_is, run_le spacing s, q, run_le solid after);
        some = rw (← left_is, length-drop) (omega (arith, turn_some s full));
        fits = λ k. omega (arith, size, e_is, k.short (run spacing s));
        short = λ k. rw rest_from (short_rest (g + e) k);
      }

-- ---- lengths

pub breaks_short : (s : List ℕ) → length (without_breaks s) ≤ length s
unfolding without_breaks
breaks_short [] = omega arith
breaks_short (b ∷ s) =
    let k = breaks_short s in
    cond_has (λ l. length l ≤ suc (length s)) (eqb b 13 || eqb b 10) (without_breaks s) (b ∷ without_breaks s) (λ t. omega arith) (λ t. omega arith)

text_short : (after : Bool) (t : Turn) → length (turn_text after t) ≤ length t.gap + length t.run
unfolding turn_text
text_short after t =
    let k = breaks_short t.gap in
    cond_has (λ l. length l ≤ length t.gap + length t.run) (is_word t.run) (cond after [] (without_breaks t.gap) ++ added t.run) (without_breaks t.gap ++ t.run)
    (λ u. cond_has (λ l. length (l ++ added t.run) ≤ length t.gap + length t.run) after [] (without_breaks t.gap)
    (λ v. omega (arith, added_short t.run)) (λ v. rw length-append (omega (arith, added_short t.run))))
    (λ u. rw length-append (omega arith))

at_short : (after : Bool) (s : List ℕ) → length (turn_text after (turn_at s)) ≤ turn_size s
unfolding turn_at turn_size
at_short after s =
    let a = run spacing s in
    let b = run solid (drop a s) in
    omega (arith, text_short after (turn_at s), length-take a s, length-take b (drop a s))

shown_le : (m : ℕ) (after : Bool) (s : List ℕ) → length s ≤ m → length (shown after (turns_of s)) ≤ length s
unfolding shown
shown_le zero after [] h = rw turns_nil (omega arith)
shown_le zero after (b ∷ s) h = absurd (omega arith)
shown_le (suc m) after [] h = rw turns_nil (omega arith)
shown_le (suc m) after (b ∷ s) h =
    let x = b ∷ s in
    let k = turn_some x (omega arith) in
    let more = shown_le m (is_word (turn_at x).run) (drop (turn_size x) x) (rw length-drop (omega arith)) in
    rw (turns_front x (omega arith), length-append) (omega (arith, more, at_short after x, length-drop (turn_size x) x, turn_le x))

pub shown_short : (after : Bool) (s : List ℕ) → length (shown after (turns_of s)) ≤ length s
shown_short after s = shown_le (length s) after s (omega arith)

-- ---- a turn, as code shows it

module _ (gap run : List ℕ) (after : Bool) where
  pub turn_adjacent : {at n : ℕ} {o o' : List ℕ} → is_word run ≡ true → after ≡ true → AppendedCapped (added run) at o o' n → AppendedCapped (turn_text after (turn_of gap run)) at o o' n
  unfolding turn_text
  turn_adjacent w a t = capped_same (rw (w, a) refl) t

  pub turn_word : {at n m : ℕ} {o o' o'' : List ℕ} → is_word run ≡ true → after ≡ false → length o ≤ greatest → AppendedCapped (without_breaks gap) at o o' n → AppendedCapped (added run) n o' o'' m
      → AppendedCapped (turn_text after (turn_of gap run)) at o o'' m
  unfolding turn_text
  turn_word w a fits t u = capped_same (rw (w, a) refl) (capped_then t u fits)

  pub turn_other : {at n m : ℕ} {o o' o'' : List ℕ} → is_word run ≡ false → length o ≤ greatest → AppendedCapped (without_breaks gap) at o o' n → AppendedCapped run n o' o'' m
      → AppendedCapped (turn_text after (turn_of gap run)) at o o'' m
  unfolding turn_text
  turn_other w fits t u = capped_same (rw w refl) (capped_then t u fits)

-- white space without the CRLF of folds, byte by byte
breaks_front : (b : ℕ) (s : List ℕ) → without_breaks (b ∷ s) ≡ without_breaks (b ∷ []) ++ without_breaks s
unfolding without_breaks
breaks_front b s = pick (eqb b 13 || eqb b 10)
  where
    pick : (t : Bool) → cond t (without_breaks s) (b ∷ without_breaks s) ≡ cond t [] (b ∷ []) ++ without_breaks s
    pick true = refl
    pick false = refl

module _ (b : ℕ) where
  pub broken : (at : ℕ) (o : List ℕ) → at ≤ greatest → eqb b 13 || eqb b 10 ≡ true → AppendedCapped (without_breaks (b ∷ [])) at o o at
  unfolding without_breaks
  broken at o h e = rw e (capped_none at o h)

  pub unbroken : {at n : ℕ} {o o' : List ℕ} → eqb b 13 || eqb b 10 ≡ false → AppendedCapped (b ∷ []) at o o' n → AppendedCapped (without_breaks (b ∷ [])) at o o' n
  unfolding without_breaks
  unbroken e a = rw e a

pub record Gap (s : List ℕ) (at : ℕ) (before after : List ℕ) (i next : ℕ) : Type 0 where
  pub text : ReachedCapped (without_breaks s) (without_breaks (drop i s)) at before after next

pub gap_start : (s : List ℕ) (at : ℕ) (before : List ℕ) → at ≤ greatest → Gap s at before before 0 at
gap_start s at before h = record { text = capped_start (without_breaks s) at before h }

module _ {s : List ℕ} {at : ℕ} {before mid : List ℕ} {i next : ℕ} (g : Gap s at before mid i next) where
  pub length_gap : length mid ≡ length before
  length_gap = length_capped g.text

  pub gap_next : {after : List ℕ} {m : ℕ} → i < length s → length before ≤ greatest → AppendedCapped (without_breaks (get_or s i 0 ∷ [])) next mid after m → Gap s at before after (i + 1) m
  gap_next h fits a = record { text = capped_turn g.text (rw (add-one, drop-cons s i 0 h) (breaks_front (get_or s i 0) (drop (suc i) s))) a fits }

  pub gap_end : length s ≤ i → AppendedCapped (without_breaks s) at before mid next
  unfolding without_breaks
  gap_end h = capped_end g.text (rw (drop_of_length-le s {i = i} h) refl)

pub gap_length : (s : List ℕ) {before after : List ℕ} {n : ℕ} → AppendedCapped (without_breaks s) 0 before after n → length s ≤ greatest → n ≡ length (without_breaks s)
gap_length s a h = omega (arith, a.place, breaks_short s)

-- ---- a loop over turns that writes

none_shown : (after : Bool) (rest : List ℕ) → length rest ≡ 0 → shown after (turns_of rest) ≡ []
unfolding shown
none_shown after [] h = rw turns_nil refl
none_shown after (b ∷ rest) h = absurd (omega arith)

pub record Showing (s before out : List ℕ) (at : ℕ) (rest : List ℕ) (after : Bool) : Type 0 where
  pub text : ReachedCapped (shown false (turns_of s)) (shown after (turns_of rest)) 0 before out at

pub showing_start : (s before : List ℕ) → Showing s before before 0 s false
showing_start s before = record { text = capped_start (shown false (turns_of s)) 0 before (omega arith) }

module _ {s before out : List ℕ} {at : ℕ} {rest : List ℕ} {after : Bool} (w : Showing s before out at rest after) where
  pub length_showing : length out ≡ length before
  length_showing = length_capped w.text

  pub showing_next : {n : ℕ} {word : Bool} {gap run more out' : List ℕ} → Split rest gap run more → word ≡ is_word run → length before ≤ greatest
      → AppendedCapped (turn_text after (turn_of gap run)) at out out' n → Showing s before out' n more word
  unfolding shown
  showing_next t k fits a = record { text = capped_turn w.text (ap (shown after) t.turns ∙ rw (← k) refl) a fits }

  pub showing_end : length rest ≡ 0 → length s ≤ greatest → Wrote (shown false (turns_of s)) before out at
  showing_end h fits = wrote_of (capped_end w.text (none_shown after rest h)) (omega (arith, shown_short false s))

-- ---- a loop over turns that checks

pub low : (ts : List Turn) → lowest ts ≤ 5
unfolding lowest
low [] = omega arith
low (t ∷ ts) = omega (arith, low ts)

-- no number is below 2
form_numbers : (w : List ℕ) → (form_number w ≡ 0 → ⊥) → 2 ≤ form_number w
unfolding form_number
form_numbers w n =
    let s = inner w in
    let ok = is_parted s && text_ok (letter s) (standing s) in
    cond_has (λ m. (m ≡ 0 → ⊥) → 2 ≤ m) ok (cond (is_utf8_charset s) 0 3) 2 (λ t. cond_has (λ m. (m ≡ 0 → ⊥) → 2 ≤ m) (is_utf8_charset s) 0 3 (λ u k. absurd (k refl)) (λ u k. omega arith)) (λ t k. omega arith) n

high_word : (w : List ℕ) → 2 ≤ word_number w
unfolding word_number
high_word w =
    cond_has (λ m. 2 ≤ m) (eqb (form_number w) 0) (cond (utf8 (added w)) 5 4) (form_number w) (λ t. cond_has (λ m. 2 ≤ m) (utf8 (added w)) 5 4 (λ u. omega arith) (λ u. omega arith))
    (λ t. form_numbers w (λ e. true_yes false (sym (no_false (eqb (form_number w) 0) t) ∙ eq-eqb (form_number w) 0 e)))

high_turn : (t : Turn) → 2 ≤ turn_number t
unfolding turn_number
high_turn t = cond_has (λ m. 2 ≤ m) (is_word t.run) (word_number t.run) 5 (λ u. high_word t.run) (λ u. omega arith)

high : (ts : List Turn) → 2 ≤ lowest ts
unfolding lowest
high [] = omega arith
high (t ∷ ts) = omega (arith, high_turn t, high ts)

none_low : (rest : List ℕ) → length rest ≡ 0 → lowest (turns_of rest) ≡ 5
unfolding lowest
none_low [] h = rw turns_nil refl
none_low (b ∷ rest) h = absurd (omega arith)

fault_small : (f : FieldFault) → number_of f ≤ 4
fault_small Malformed = omega arith
fault_small Word = omega arith
fault_small Charset = omega arith
fault_small NotUtf8 = omega arith

found_small : (found : Option FieldFault) → number_so_far found ≤ 5
found_small None = omega arith
found_small (Some f) = omega (arith, fault_small f)

-- the lowest fault so far; the length where there is none
pub record Counting (s : List ℕ) (found : Option FieldFault) (size : ℕ) (rest : List ℕ) (after : Bool) : Type 0 where
  pub runs : ShortRuns rest
  pub number_is : lowest (turns_of s) ≡ min (number_so_far found) (lowest (turns_of rest))
  pub size_is : found ≡ None → length (shown false (turns_of s)) ≡ size + length (shown after (turns_of rest))
  pub fits : size + length rest ≤ length s

pub counting_start : (s : List ℕ) → ShortRuns s → Counting s None 0 s false
counting_start s h = record { runs = h; number_is = omega (arith, low (turns_of s)); size_is = λ e. omega arith; fits = omega arith }

module _ {s : List ℕ} {found : Option FieldFault} {size : ℕ} {rest : List ℕ} {after : Bool} (c : Counting s found size rest after) where
  module _ {gap run more : List ℕ} (t : Split rest gap run more) where
    pub run_short : length run ≤ 1024
    run_short = t.fits c.runs

    module _ {word : Bool} (k : word ≡ is_word run) where
      shown_parts : length (shown after (turns_of rest)) ≡ length (turn_text after (turn_of gap run)) + length (shown word (turns_of more))
      unfolding shown
      shown_parts = rw (t.turns, length-append, ← k) refl

      lowest_parts : lowest (turns_of rest) ≡ min (turn_number (turn_of gap run)) (lowest (turns_of more))
      unfolding lowest
      lowest_parts = rw t.turns refl

      pub counting_text : {n : ℕ} → (turn_number (turn_of gap run) ≡ 5) × (n ≡ length (turn_text after (turn_of gap run))) → Counting s found (size + n) more word
      counting_text {n} a = record {
        runs = t.short c.runs;
        number_is = c.number_is ∙ omega (arith, lowest_parts, a.0, low (turns_of more));
        size_is = λ e. omega (arith, c.size_is e, shown_parts, a.1);
        fits = omega (arith, c.fits, t.size, text_short after (turn_of gap run), a.1);
      }

      pub counting_fault : (f g : FieldFault) → number_of f ≡ turn_number (turn_of gap run) → number_of g ≡ min (number_so_far found) (number_of f) → Counting s (Some g) size more word
      counting_fault f g a b = record {
        runs = t.short c.runs;
        number_is = c.number_is ∙ omega (arith, lowest_parts, a, b);
        size_is = λ e. cc;
        fits = omega (arith, c.fits, t.size);
      }

    pub counting_fits : {n : ℕ} → n ≡ length (turn_text after (turn_of gap run)) → size + n ≤ length s
    counting_fits e = omega (arith, c.fits, t.size, text_short after (turn_of gap run))

module _ {s : List ℕ} {found : Option FieldFault} {size : ℕ} {rest : List ℕ} {after : Bool} (c : Counting s found size rest after) (h : length rest ≡ 0) where
  pub counting_fault_end : (f : FieldFault) → found ≡ Some f → number_of f ≡ lowest (turns_of s)
  counting_fault_end f e = omega (arith, c.number_is, ap number_so_far e, none_low rest h, fault_small f)

  pub counting_text_end : found ≡ None → (lowest (turns_of s) ≡ 5) × (size ≡ length (shown false (turns_of s)))
  counting_text_end e = (omega (arith, c.number_is, ap number_so_far e, none_low rest h), omega (arith, c.size_is e, ap length (none_shown after rest h)))

-- ---- a word, as code checks it

-- its bytes are found at the front of a scratch
module _ (w : List ℕ) {before after : List ℕ} {l : ℕ} (a : AppendedCapped (added w) 0 before after l) (k : length w ≤ 1024) (h : length before ≡ 1024) where
  wrote : Wrote (added w) before after l
  wrote = wrote_of a (omega (arith, added_short w))

  pub word_length : l ≡ length (added w)
  word_length = wrote.size

  pub word_within : l ≤ length after
  word_within = omega (arith, wrote.size, length_wrote wrote, added_short w)

  word_front : take l after ≡ added w
  word_front = rw (wrote.size, wrote.bytes) (overlay_front (added w) before (omega (arith, added_short w)))

  pub word_size : l ≡ length (take l after)
  word_size = rw word_front wrote.size

  pub word_text : {u : Bool} → form_number w ≡ 0 → u ≡ utf8 (take l after) → u ≡ true → ReadAs (word_number w) (length (added w)) (Ok l)
  unfolding word_number
  word_text z e t = let v : utf8 (added w) ≡ true = rw (← word_front, ← e) t in (rw (z, v) refl, word_length)

  pub word_utf8 : {u : Bool} → form_number w ≡ 0 → u ≡ utf8 (take l after) → u ≡ false → 4 ≡ word_number w
  unfolding word_number
  word_utf8 z e t = let v : utf8 (added w) ≡ false = rw (← word_front, ← e) t in rw (z, v) refl

pub word_fault_number : (w : List ℕ) {n : ℕ} → n ≡ form_number w → (n ≡ 0 → ⊥) → n ≡ word_number w
unfolding word_number
word_fault_number w {n} f k = rw (← f, ne_eqb n 0 k) refl

-- the fault of a word becomes that of the field
pub word_err : (w : List ℕ) {form : Result ⊤ WordFault} (fault : WordFault) (size : ℕ) (r : Result ℕ FieldFault) → word_fault form ≡ form_number w → form ≡ Err fault
    → IsErrAnd r (λ f. f ≡ of_word fault) → ReadAs (word_number w) size r
word_err w fault size (Ok m) e k a = absurd a
word_err w MalformedWord size (Err f) e k a = rw a (word_fault_number w (sym (ap word_fault k) ∙ e) (λ z. absurd (omega arith)))
word_err w CharsetOfWord size (Err f) e k a = rw a (word_fault_number w (sym (ap word_fault k) ∙ e) (λ z. absurd (omega arith)))

-- a turn, as code checks it
module _ (gap run : List ℕ) (after : Bool) where
  pub turn_plain : {m : ℕ} → is_word run ≡ false → m ≡ length (without_breaks gap) → (turn_number (turn_of gap run) ≡ 5) × (m + length run ≡ length (turn_text after (turn_of gap run)))
  unfolding turn_number turn_text
  turn_plain w e = (rw w refl, rw (w, length-append, e) refl)

  pub turn_first : {n l m : ℕ} → is_word run ≡ true → after ≡ false → (n ≡ word_number run) × (l ≡ length (added run)) → m ≡ length (without_breaks gap)
      → (n ≡ turn_number (turn_of gap run)) × (m + l ≡ length (turn_text after (turn_of gap run)))
  unfolding turn_number turn_text
  turn_first w a c e = (rw w c.0, rw (w, a, length-append, e, c.1) refl)

  pub turn_next : {n l : ℕ} → is_word run ≡ true → after ≡ true → (n ≡ word_number run) × (l ≡ length (added run)) → (n ≡ turn_number (turn_of gap run)) × (l ≡ length (turn_text after (turn_of gap run)))
  unfolding turn_number turn_text
  turn_next w a c = (rw w c.0, rw (w, a) c.1)

  -- the same of a word without a fault
  pub read_first : {l m : ℕ} → is_word run ≡ true → after ≡ false → (word_number run ≡ 5) × (l ≡ length (added run)) → m ≡ length (without_breaks gap)
      → (turn_number (turn_of gap run) ≡ 5) × (m + l ≡ length (turn_text after (turn_of gap run)))
  read_first w a c e = let k = turn_first w a (sym c.0, c.1) e in (sym k.0, k.1)

  pub read_next : {l : ℕ} → is_word run ≡ true → after ≡ true → (word_number run ≡ 5) × (l ≡ length (added run)) → (turn_number (turn_of gap run) ≡ 5) × (l ≡ length (turn_text after (turn_of gap run)))
  read_next w a c = let k = turn_next w a (sym c.0, c.1) in (sym k.0, k.1)

  pub turn_fault : (f : FieldFault) → is_word run ≡ true → number_of f ≡ word_number run → number_of f ≡ turn_number (turn_of gap run)
  unfolding turn_number
  turn_fault f w e = rw w e

  pub turn_err : (f : FieldFault) (r : Result ℕ FieldFault) → is_word run ≡ true → number_of f ≡ word_number run → IsErrAnd r (λ g. g ≡ f) → ReadAs (turn_number (turn_of gap run)) (length (turn_text after (turn_of gap run))) r
  turn_err f (Ok m) w e a = absurd a
  turn_err f (Err g) w e a = turn_fault g w (ap number_of a ∙ e)

-- ---- a field

by_number : (n size : ℕ) (r : Result ℕ FieldFault) → 2 ≤ n → ReadAs n size r → r ≡ of_number n size
unfolding of_number
by_number n size (Ok m) h a = rw (a.0, a.1) refl
by_number n size (Err Malformed) h a = absurd (omega arith)
by_number n size (Err Word) h a = rw (← a) refl
by_number n size (Err Charset) h a = rw (← a) refl
by_number n size (Err NotUtf8) h a = rw (← a) refl

-- its value without the white space before its text
abbrev pub text_part : List ℕ → List ℕ
text_part field = drop (run spacing (value_of field)) (value_of field)

pub text_by : (field : List ℕ) {value : List ℕ} {n : ℕ} → value ≡ value_of field → n ≡ 0 + run spacing (drop 0 value) → drop n value ≡ text_part field
text_by field {value} {n} e k = let z : n ≡ run spacing value = omega arith in rw (z, e) refl

module _ (field : List ℕ) {s : List ℕ} (e : s ≡ text_part field) where
  pub turns_are : turns_of s ≡ field_turns field
  unfolding field_turns
  turns_are = rw e refl

  pub put_text : {before after : List ℕ} {r : ℕ} → Wrote (shown false (turns_of s)) before after r → Wrote (field_text field) before after r
  unfolding field_text
  put_text w = rw (← turns_are) w

  pub read_formed : {ok : Bool} {r : Result ℕ FieldFault} → ok ≡ is_formed field → ok ≡ true → ReadAs (lowest (turns_of s)) (length (shown false (turns_of s))) r → r ≡ field_read field
  unfolding field_read field_text
  read_formed {ok} {r} o t a = by_number (lowest (turns_of s)) (length (shown false (turns_of s))) r (high (turns_of s)) a ∙ rw (← o, t, turns_are) refl

pub read_malformed : (field : List ℕ) {ok : Bool} → ok ≡ is_formed field → ok ≡ false → Err Malformed ≡ field_read field
unfolding field_read
read_malformed field o t = rw (← o, t) refl
