-- Words, phrases and addresses of a text that is UTF-8 end where it may be cut, and the text of a phrase is UTF-8.
use Rattle.std.specs.Prelude.{◌≡◌, refl, Bool, true, false, cond, ◌&&◌, ◌||◌, List, [], ◌∷◌, ◌++◌, map, ℕ, zero, suc, ◌+◌, ◌≤◌, ◌<◌, T, leb, ltb, eqb, length, take, drop, get_or, Result, Ok, Err}
use Rattle.std.proofs.Common.{not-suc-le-zero, arith, eqb→eq, lt→ltb, take-append-drop, length-drop, drop-drop, take_all, take-add}
use Rattle.std.proofs.Math.Facts.{and_yes, yes_and, ltb_yes, ltb_no, leb_no}
use Rattle.lists.specs.Byte.{is_ascii}
use Rattle.lists.specs.ListsLaws.{by_test, no_false, cond_has, all_weaken}
use Rattle.lists.specs.Lists.{all}
use Rattle.lists.specs.Run.{run}
use Rattle.lists.specs.RunLaws.{run_all, run_after, run_le}
use Rattle.utf8.specs.Utf8.{utf8, chars}
use Rattle.lists.specs.CutBy.{cut_after, cut_by}
use Rattle.utf8.specs.Utf8Laws.{utf8_right, utf8_append, utf8_ascii}
use Rattle.line.specs.Line.{blank}
use Rattle.unquote.specs.Unquote.{unquoted}
use Rattle.unquote.specs.UnquoteLaws.{unquoted_utf8}
use Rattle.address.specs.AddressLaws.{front_byte}
use Rattle.address.specs.Address.{is_atom_byte, is_atext, is_high, quoted_scan, address_scan}
use Rattle.address.specs.GrammarLaws.{Cut, utf8_taken, quoted_cut, address_cut}
use Rattle.phrase.specs.Words.{found, capped, is_word_byte, address_len, word_len, next_word_len, next_words_len, phrase_len}
use Rattle.phrase.specs.WordsLaws.{words_front, words_none, next_word_le}
use Rattle.phrase.specs.Phrase.{word_size, words_from, phrase_words, after_spaces, joined_by_spaces, phrase_text}
use Rattle.phrase.specs.PhraseLaws.{phrase_words_front, word_size_some}

-- ---- where UTF-8 may be cut

-- what stands before n and from n on is UTF-8
pub record Boundary (s : List ℕ) (n : ℕ) : Type 0 where
  pub before : T (utf8 (take n s))
  pub after : T (utf8 (drop n s))

boundary : (s : List ℕ) (n : ℕ) → T (utf8 s) → T (utf8 (take n s)) → Boundary s n
boundary s n h b =
    let whole : T (utf8 (take n s ++ drop n s)) = rw (take-append-drop n s) h in
    record { before = b; after = rw (utf8_right (take n s) (drop n s) b) at whole }

boundary_cut : (s : List ℕ) (n : ℕ) → T (utf8 s) → Cut s n → Boundary s n
boundary_cut s n h c = boundary s n h (utf8_taken s n h c)

boundary_none : (s : List ℕ) → T (utf8 s) → Boundary s 0
unfolding utf8 chars cut_by cut_after
boundary_none s h = record { before = tt; after = h }

pub boundary_then : (s : List ℕ) (k n : ℕ) → Boundary s k → Boundary (drop k s) n → Boundary s (k + n)
boundary_then s k n a b = record {
  before = rw (take-add k n s) (utf8_append (take k s) (take n (drop k s)) a.before b.before);
  after = rw (drop-drop n k s) at b.after;
}

boundary_end : (s : List ℕ) → T (utf8 s) → Boundary s (length s)
boundary_end s h = boundary s (length s) h (rw (take_all (length s) s (omega arith)) h)

-- after an ASCII byte
pub boundary_first : (s : List ℕ) → T (utf8 s) → get_or s 0 0 < 128 → Boundary s 1
boundary_first [] h k = boundary [] 1 h h
boundary_first (b ∷ s) h k = boundary (b ∷ s) 1 h (utf8_ascii (b ∷ []) (yes_and (is_ascii b) true (lt→ltb b 128 k) tt))

-- the same from a boundary on
pub boundary_byte : (s : List ℕ) (n b : ℕ) → Boundary s n → get_or s n 0 ≡ b → b < 128 → Boundary s (n + 1)
boundary_byte s n b a e k = boundary_then s n 1 a (boundary_first (drop n s) a.after (rw (front_byte s n, e) k))

-- ---- words, phrases and addresses

capped_boundary : (s : List ℕ) (n : ℕ) → T (utf8 s) → Boundary s n → Boundary s (capped n)
unfolding capped
capped_boundary s n h a = cond_has (Boundary s) (leb n 900) n 0 (λ t. a) (λ t. boundary_none s h)

found_boundary : (s : List ℕ) (r : Result ℕ ℕ) → T (utf8 s) → ((n : ℕ) → r ≡ Ok n → Cut s n) → Boundary s (found r)
found_boundary s (Ok n) h c = boundary_cut s n h (c n refl)
found_boundary s (Err n) h c = boundary_none s h

pub address_boundary : (s : List ℕ) → T (utf8 s) → Boundary s (address_len s)
unfolding address_len
address_boundary s h = capped_boundary s (found (address_scan s)) h (found_boundary s (address_scan s) h (address_cut s))

word_byte_high : (b : ℕ) → is_word_byte b ≡ false → b < 128
unfolding is_word_byte is_atom_byte
word_byte_high b e =
    by_test (leb 128 b)
    (λ t. absurd (rw e at (yes_or (is_atext b || is_high b) (eqb b 46) (yes_or_right (is_atext b) (is_high b) t))))
    (λ t. leb_no {a = 128} {b = b} t)
  where
    yes_or : (x y : Bool) → T x → T (x || y)
    yes_or true y t = tt
    yes_or false y t = absurd t

    yes_or_right : (x y : Bool) → T y → T (x || y)
    yes_or_right true y t = tt
    yes_or_right false y t = t

run_boundary : (s : List ℕ) → T (utf8 s) → Boundary s (run is_word_byte s)
run_boundary s h =
    let n : ℕ = run is_word_byte s in
    by_test (ltb n (length s))
    (λ t. boundary_cut s n h (Cut.before (word_byte_high (get_or s n 0) (run_after is_word_byte s (ltb_yes t)))))
    (λ t. rw (whole n (run_le is_word_byte s) (ltb_no t)) (boundary_end s h))
  where
    whole : (n : ℕ) → n ≤ length s → length s ≤ n → n ≡ length s
    whole n a b = omega arith

word_boundary : (s : List ℕ) → T (utf8 s) → Boundary s (word_len s)
unfolding word_len
word_boundary s h =
    let quoted : Boundary s (found (quoted_scan s)) = found_boundary s (quoted_scan s) h (quoted_cut s) in
    capped_boundary s (cond (eqb (get_or s 0 0) 34) (found (quoted_scan s)) (run is_word_byte s)) h
    (cond_has (Boundary s) (eqb (get_or s 0 0) 34) (found (quoted_scan s)) (run is_word_byte s) (λ t. quoted) (λ t. run_boundary s h))

blank_ascii : (b : ℕ) → T (blank b) → T (is_ascii b)
unfolding blank
blank_ascii b t =
    by_test (eqb b 32)
    (λ e. rw (eqb→eq b 32 e) tt)
    (λ e. rw (eqb→eq b 9 (rw (no_false (eqb b 32) e) at t)) tt)

pub blank_low : (b : ℕ) → T (blank b) → b < 128
blank_low b t = ltb_yes {a = b} {b = 128} (blank_ascii b t)

pub blanks_boundary : (s : List ℕ) → T (utf8 s) → Boundary s (run blank s)
blanks_boundary s h =
    boundary s (run blank s) h (utf8_ascii (take (run blank s) s) (all_weaken blank is_ascii blank_ascii (take (run blank s) s) (run_all blank s)))

next_word_boundary : (s : List ℕ) → T (utf8 s) → Boundary s (next_word_len s)
unfolding next_word_len
next_word_boundary s h =
    let gap : ℕ = run blank s in
    let word : ℕ = word_len (drop gap s) in
    let blanks = blanks_boundary s h in
    cond_has (Boundary s) (ltb 0 gap && ltb 0 word) (gap + word) 0
    (λ t. boundary_then s gap word blanks (word_boundary (drop gap s) blanks.after))
    (λ t. boundary_none s h)

words_boundary : (m : ℕ) (s : List ℕ) → length s ≤ m → T (utf8 s) → Boundary s (next_words_len 0 s)
words_boundary zero s k h = rw (words_none s (omega (arith, next_word_le s))) (boundary_none s h)
words_boundary (suc m) s k h =
    let n : ℕ = next_word_len s in
    let next = next_word_boundary s h in
    by_test (ltb 0 n)
    (λ t. let some : 0 < n = ltb_yes t in
    rw (words_front n s refl some (next_word_le s))
    (boundary_then s n (next_words_len 0 (drop n s)) next (words_boundary m (drop n s) (omega (arith, length-drop n s, next_word_le s)) next.after)))
    (λ t. rw (words_none s (ltb_no t)) (boundary_none s h))

pub phrase_boundary : (s : List ℕ) → T (utf8 s) → Boundary s (phrase_len s)
unfolding phrase_len
phrase_boundary s h =
    let word : ℕ = word_len s in
    let first = word_boundary s h in
    let more = words_boundary (length (drop word s)) (drop word s) (omega arith) first.after in
    cond_has (Boundary s) (ltb 0 word) (word + next_words_len 0 (drop word s)) 0
    (λ t. boundary_then s word (next_words_len 0 (drop word s)) first more)
    (λ t. boundary_none s h)

-- ---- the words of a phrase

word_size_boundary : (t : List ℕ) → T (utf8 t) → Boundary t (word_size t)
unfolding word_size
word_size_boundary t h = cond_has (Boundary t) (eqb (word_len t) 0) (length t) (word_len t) (λ e. boundary_end t h) (λ e. word_boundary t h)

words_nil : words_from 0 [] ≡ []
unfolding words_from
words_nil = refl

words_turn : (m : ℕ) (t : List ℕ) → length t ≤ suc m → T (utf8 t) → ((s : List ℕ) → length s ≤ m → T (utf8 s) → T (all utf8 (words_from 0 s)))
    → T (all utf8 (words_from 0 t))
words_turn m [] k h more = rw words_nil tt
words_turn m (b ∷ t) k h more =
    let s : List ℕ = b ∷ t in
    let word : ℕ = word_size s in
    let first = word_size_boundary s h in
    let gap : ℕ = run blank (drop word s) in
    let blanks = boundary_then s word gap first (blanks_boundary (drop word s) first.after) in
    let less : length (drop (word + gap) s) ≤ m = omega (arith, length-drop (word + gap) s, word_size_some b t) in
    rw (phrase_words_front s (omega arith))
    (yes_and (utf8 (take word s)) (all utf8 (words_from 0 (drop (word + gap) s))) first.before (more (drop (word + gap) s) less blanks.after))

words_utf8 : (m : ℕ) (t : List ℕ) → length t ≤ m → T (utf8 t) → T (all utf8 (words_from 0 t))
words_utf8 zero [] k h = rw words_nil tt
words_utf8 zero (b ∷ t) k h = absurd (not-suc-le-zero k)
words_utf8 (suc m) t k h = words_turn m t k h (words_utf8 m)

-- ---- the text of a phrase

after_spaces_utf8 : (ws : List (List ℕ)) → T (all utf8 ws) → T (utf8 (after_spaces (map unquoted ws)))
unfolding after_spaces
after_spaces_utf8 [] h = utf8_ascii [] tt
after_spaces_utf8 (w ∷ ws) h =
    let both = and_yes (utf8 w) (all utf8 ws) h in
    utf8_append (32 ∷ []) (unquoted w ++ after_spaces (map unquoted ws)) (utf8_ascii (32 ∷ []) tt)
    (utf8_append (unquoted w) (after_spaces (map unquoted ws)) (unquoted_utf8 w both.0) (after_spaces_utf8 ws both.1))

joined_utf8 : (ws : List (List ℕ)) → T (all utf8 ws) → T (utf8 (joined_by_spaces (map unquoted ws)))
unfolding joined_by_spaces
joined_utf8 [] h = utf8_ascii [] tt
joined_utf8 (w ∷ ws) h =
    let both = and_yes (utf8 w) (all utf8 ws) h in
    utf8_append (unquoted w) (after_spaces (map unquoted ws)) (unquoted_utf8 w both.0) (after_spaces_utf8 ws both.1)

pub phrase_text_utf8 : (t : List ℕ) → T (utf8 t) → T (utf8 (phrase_text t))
unfolding phrase_text phrase_words
phrase_text_utf8 t h = joined_utf8 (words_from 0 t) (words_utf8 (length t) t (omega arith) h)
