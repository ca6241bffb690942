-- Laws of words, phrases and addresses, as code finds them by position.
use Rattle.std.proofs.Math.Path.{◌≡◌, refl}
use Rattle.std.proofs.Common.{ap, sym, ◌∙◌, not-suc-le-zero, drop_of_length-le, drop-drop}
use Rattle.std.specs.Prelude.{Bool, true, false, cond, ◌&&◌, ℕ, zero, suc, ◌+◌, ◌-◌, ◌≤◌, ◌<◌, ltb, leb, eqb, drop, get_or, Option, Some, None, Result, Ok, Err}
use Rattle.std.specs.Result.{result_ok}
use Rattle.std.proofs.Math.Bool.{and-false}
use mathlib.Core.List.{List, [], ◌∷◌}
use native.Mathlib.Omega.{arith}
use borrow.Author.Tests.{lt-ltb, le-leb, lt-leb, eq-eqb, ne_eqb}
use Rattle.std.proofs.Math.ListN.{length, length-drop}
use Rattle.lists.specs.ListsLaws.{cond_has}
use Rattle.lists.specs.Run.{run}
use Rattle.lists.specs.RunLaws.{run_le}
use Rattle.line.specs.Line.{blank}
use Rattle.address.specs.Address.{later, quoted_scan, address_scan}
use Rattle.address.specs.AddressLaws.{front_byte}
use Rattle.address.specs.TakenLaws.{Taken, taken_quoted, taken_address}
use Rattle.phrase.specs.Words.{found, capped, is_word_byte, address_len, word_len, next_word_len, next_words_len, phrase_len}

pub capped_in : (n : ℕ) → n ≤ 900 → n ≡ capped n
unfolding capped
capped_in n h = rw (le-leb n 900 h)

pub capped_out : (n : ℕ) → 900 < n → 0 ≡ capped n
unfolding capped
capped_out n h = rw (lt-leb n 900 h)

pub capped_le : {r n m : ℕ} → r ≡ capped n → n ≤ m → r ≤ m
unfolding capped
capped_le {r} {n} {m} e h = rw e (go (leb n 900))
  where
    go : (b : Bool) → cond b n 0 ≤ m
    go true = h
    go false = omega arith

-- ---- what a scan found, by position

module _ {least : ℕ} (s : List ℕ) (at : ℕ) (r : Result ℕ ℕ) (t : Taken (suc least) (drop at s) r) where
  pub found_to : (n : ℕ) → Ok n ≡ later at r → (n - at ≡ found r) × ((at ≤ n) × (n - at ≤ length s - at))
  unfolding later
  found_to n e = go r t e
    where
      go : (r : Result ℕ ℕ) → Taken (suc least) (drop at s) r → Ok n ≡ later at r → (n - at ≡ found r) × ((at ≤ n) × (n - at ≤ length s - at))
      go (Ok m) t e =
          let place : n ≡ at + m = cc in
          (omega arith, (omega arith, omega (arith, t.covers.within, length-drop at s)))
      go (Err m) t e = absurd (let z : ◌≡◌ {A = ℕ} 0 1 = cc in omega arith)

  pub found_stop : (n : ℕ) → Err n ≡ later at r → 0 ≡ found r
  unfolding later
  found_stop n e = go r e
    where
      go : (r : Result ℕ ℕ) → Err n ≡ later at r → 0 ≡ found r
      go (Ok m) e = absurd (let z : ◌≡◌ {A = ℕ} 0 1 = cc in omega arith)
      go (Err m) e = refl

  -- the same of the option of where it ends
  module _ {o : Option ℕ} {q : Result ℕ ℕ} (w : o ≡ result_ok q) (p : q ≡ later at r) where
    pub taken_some : {n : ℕ} → o ≡ Some n → (n - at ≡ found r) × ((at ≤ n) × (n - at ≤ length s - at))
    taken_some {n} e = go q refl
      where
        go : (a : Result ℕ ℕ) → q ≡ a → (n - at ≡ found r) × ((at ≤ n) × (n - at ≤ length s - at))
        go (Ok m) x = let same : Some n ≡ Some m = sym e ∙ (w ∙ rw x refl) in let k : n ≡ m = cc in found_to n (rw k (sym x ∙ p))
        go (Err m) x = let none : Some n ≡ None = sym e ∙ (w ∙ rw x refl) in absurd (let z : ◌≡◌ {A = ℕ} 0 1 = cc in omega arith)

    pub taken_none : o ≡ None → 0 ≡ found r
    taken_none e = go q refl
      where
        go : (a : Result ℕ ℕ) → q ≡ a → 0 ≡ found r
        go (Ok m) x = let some : None ≡ Some m = sym e ∙ (w ∙ rw x refl) in absurd (let z : ◌≡◌ {A = ℕ} 0 1 = cc in omega arith)
        go (Err m) x = found_stop m (sym x ∙ p)

pub address_of : (s : List ℕ) (n : ℕ) → n ≡ found (address_scan s) → capped n ≡ address_len s
unfolding address_len
address_of s n e = rw e

pub address_none : (s : List ℕ) → 0 ≡ found (address_scan s) → address_len s ≡ 0
address_none s e = sym (address_of s 0 e) ∙ sym (capped_in 0 (omega arith))

-- ---- a word

module _ (s : List ℕ) (at n r : ℕ) (q : r ≡ capped n) where
  pub word_quoted : get_or s at 0 ≡ 34 → n ≡ found (quoted_scan (drop at s)) → r ≡ word_len (drop at s)
  unfolding word_len
  word_quoted h e = rw (front_byte s at, eq-eqb _ _ h, ← e) q

  pub word_run : (get_or s at 0 ≡ 34 → ⊥) → n ≡ run is_word_byte (drop at s) → r ≡ word_len (drop at s)
  unfolding word_len
  word_run h e = rw (front_byte s at, ne_eqb _ _ h, ← e) q

-- ---- blanks and a word: the blanks end at e

module _ (s : List ℕ) (at e : ℕ) (q : e ≡ at + run blank (drop at s)) where
  gap_size : run blank (drop at s) ≡ e - at
  gap_size = omega arith

  rest : drop (e - at) (drop at s) ≡ drop e s
  rest = let k : at + (e - at) ≡ e = omega arith in rw (drop-drop, k)

  pub next_none : e ≡ at → 0 ≡ next_word_len (drop at s)
  unfolding next_word_len
  next_none z = let k : e - at ≡ 0 = omega arith in rw (gap_size, k)

  pub next_no_word : (w : ℕ) → w ≡ word_len (drop e s) → w ≡ 0 → 0 ≡ next_word_len (drop at s)
  unfolding next_word_len
  next_no_word w r z = rw (gap_size, rest, ← r, z, and-false)

  pub next_word : (e ≡ at → ⊥) → (w : ℕ) → w ≡ word_len (drop e s) → (w ≡ 0 → ⊥) → e - at + w ≡ next_word_len (drop at s)
  unfolding next_word_len
  next_word p w r z =
      let k : 0 < e - at = omega arith in
      rw (gap_size, rest, ← r, lt-ltb _ _ k, lt-ltb 0 w (omega arith))

  pub blanks_within : e - at ≤ length s - at
  blanks_within = omega (arith, run_le blank (drop at s), length-drop at s)

-- ---- a phrase

passed : (k : ℕ) (s : List ℕ) → k ≤ length s → next_words_len k s ≡ k + next_words_len 0 (drop k s)
unfolding next_words_len
passed zero s h = omega arith
passed (suc k) [] h = absurd (not-suc-le-zero h)
passed (suc k) (b ∷ s) h = omega (arith, passed k s (omega arith))

pub words_front : (n : ℕ) (s : List ℕ) → n ≡ next_word_len s → 0 < n → n ≤ length s → next_words_len 0 s ≡ n + next_words_len 0 (drop n s)
unfolding next_words_len
words_front n [] q p h = absurd (not-suc-le-zero {n = 0} (omega arith))
words_front zero (b ∷ s) q p h = absurd (not-suc-le-zero p)
words_front (suc n) (b ∷ s) q p h = rw (← q, lt-ltb 0 (suc n) p) (omega (arith, passed n s (omega arith)))

module _ (s : List ℕ) (i n : ℕ) (q : n ≡ next_word_len (drop i s)) where
  pub words_stop : n ≡ 0 → i + next_words_len 0 (drop i s) ≡ i
  unfolding next_words_len
  words_stop z = go (drop i s) (sym q ∙ z)
    where
      go : (t : List ℕ) → next_word_len t ≡ 0 → i + next_words_len 0 t ≡ i
      go [] e = omega arith
      go (b ∷ t) e = rw e (omega arith)

  pub words_step : (n ≡ 0 → ⊥) → n ≤ length s - i → i + next_words_len 0 (drop i s) ≡ i + n + next_words_len 0 (drop (i + n) s)
  words_step p h =
      let k : n ≤ length (drop i s) = rw length-drop h in
      let m = words_front n (drop i s) q (omega arith) k in
      omega (arith, m, ap (next_words_len 0) (drop-drop n i s))

pub words_end : (s : List ℕ) (i : ℕ) → length s ≤ i → i + next_words_len 0 (drop i s) ≡ i
unfolding next_words_len
words_end s i h = rw (drop_of_length-le s {i = i} h) (omega arith)

module _ (s : List ℕ) (w : ℕ) (q : w ≡ word_len (drop 0 s)) where
  pub phrase_none : w ≡ 0 → 0 ≡ phrase_len s
  unfolding phrase_len
  phrase_none z = rw (← q, z)

  pub phrase_some : (w ≡ 0 → ⊥) → phrase_len s ≡ w + next_words_len 0 (drop w s)
  unfolding phrase_len
  phrase_some p = rw (← q, lt-ltb 0 w (omega arith))

-- ---- lengths within the text

found_le : {least : ℕ} {s : List ℕ} (r : Result ℕ ℕ) → Taken (suc least) s r → found r ≤ length s
found_le (Ok n) t = t.covers.within
found_le (Err n) t = omega arith

word_le : (s : List ℕ) → word_len s ≤ length s
unfolding word_len
word_le s =
    let quoted = found_le (quoted_scan s) (taken_quoted s) in
    let plain = run_le is_word_byte s in
    capped_le refl (cond_has (λ n. n ≤ length s) (eqb (get_or s 0 0) 34) (found (quoted_scan s)) (run is_word_byte s) (λ t. quoted) (λ t. plain))

-- by position
module _ (s : List ℕ) (at : ℕ) where
  pub address_within : address_len (drop at s) ≤ length s - at
  unfolding address_len
  address_within = omega (arith, capped_le refl (found_le (address_scan (drop at s)) (taken_address (drop at s))), length-drop at s)

  pub word_within : word_len (drop at s) ≤ length s - at
  word_within = omega (arith, word_le (drop at s), length-drop at s)

pub next_word_le : (s : List ℕ) → next_word_len s ≤ length s
unfolding next_word_len
next_word_le s =
    let gap : ℕ = run blank s in
    let word : ℕ = word_len (drop gap s) in
    let within : gap + word ≤ length s = omega (arith, run_le blank s, word_le (drop gap s), length-drop gap s) in
    cond_has (λ n. n ≤ length s) (ltb 0 gap && ltb 0 word) (gap + word) 0 (λ t. within) (λ t. omega arith)

pub next_word_within : (s : List ℕ) (at : ℕ) → next_word_len (drop at s) ≤ length s - at
next_word_within s at = omega (arith, next_word_le (drop at s), length-drop at s)

-- no word follows
pub words_none : (s : List ℕ) → next_word_len s ≤ 0 → next_words_len 0 s ≡ 0
unfolding next_words_len
words_none [] h = refl
words_none (b ∷ s) h = let none : next_word_len (b ∷ s) ≡ 0 = omega arith in rw none
