-- Laws of FOR clauses: as code finds them, and that they lie in the text.
use borrow.Author.Tests.{ne_eqb, eq-eqb}
use Rattle.std.specs.Prelude.{◌≡◌, Bool, true, false, ◌&&◌, ◌||◌, cond, List, [], ◌∷◌, ℕ, ◌+◌, ◌-◌, ◌≤◌, ◌<◌, eqb, ltb, take, drop, get_or, Result, Ok, Err}
use Rattle.std.proofs.Common.{sym, ap, ◌∙◌, not-suc-le-zero, eqb→eq, length-drop, take_all, get_or-drop}
use Rattle.std.proofs.Math.Bool.{and-false}
use native.Mathlib.Omega.{arith}
use Rattle.std.proofs.Math.Facts.{ltb_yes, ltb_no, eqb_no}
use Rattle.std.proofs.Math.ListN.{length, get_or-eq_default}
use Rattle.lists.specs.Run.{run}
use Rattle.lists.specs.RunLaws.{run_le}
use Rattle.lists.specs.ListsLaws.{by_test, cond_has, yes_true, true_yes, no_false}
use Rattle.letter_case.specs.LetterCase.{bytes, same_any_case}
use Rattle.address.specs.Address.{later, address_scan}
use Rattle.address.specs.AddressLaws.{byte_within}
use Rattle.received_token.specs.Clause.{white_len, is_for, closed_len, angled_len, clause_len}
use Rattle.structured_token.specs.Tokens.{is_white}

-- ---- white space

pub white_le : (s : List ℕ) → white_len s ≤ length s
unfolding white_len
white_le s = run_le is_white s

pub white_from : (s : List ℕ) → white_len s ≡ 0 + run is_white (drop 0 s)
unfolding white_len
white_from s = omega arith

-- ---- an address in angle brackets

module _ (s : List ℕ) where
  pub angled_other : (get_or s 0 0 ≡ 60 → ⊥) → 0 ≡ angled_len s
  unfolding angled_len
  angled_other h = rw (ne_eqb (get_or s 0 0) 60 h)

  module _ (o : get_or s 0 0 ≡ 60) where
    pub angled_closed : {n : ℕ} → later 1 (address_scan (drop 1 s)) ≡ Ok n → get_or s n 0 ≡ 62 → n + 1 ≡ angled_len s
    unfolding angled_len closed_len
    angled_closed {n} e k = rw (eq-eqb (get_or s 0 0) 60 o, e, eq-eqb (get_or s n 0) 62 k)

    pub angled_open : {n : ℕ} → later 1 (address_scan (drop 1 s)) ≡ Ok n → (get_or s n 0 ≡ 62 → ⊥) → 0 ≡ angled_len s
    unfolding angled_len closed_len
    angled_open {n} e k = rw (eq-eqb (get_or s 0 0) 60 o, e, ne_eqb (get_or s n 0) 62 k)

    pub angled_none : {n : ℕ} → later 1 (address_scan (drop 1 s)) ≡ Err n → 0 ≡ angled_len s
    unfolding angled_len closed_len
    angled_none {n} e = rw (eq-eqb (get_or s 0 0) 60 o, e)

  closed_le : (r : Result ℕ ℕ) → closed_len r s ≤ length s
  unfolding closed_len
  closed_le (Ok n) = cond_has (λ k. k ≤ length s) (eqb (get_or s n 0) 62) (n + 1) 0 (λ t. omega (arith, byte_within s n 61 (eqb→eq (get_or s n 0) 62 t))) (λ t. omega arith)
  closed_le (Err n) = omega arith

  pub angled_le : angled_len s ≤ length s
  unfolding angled_len
  angled_le = cond_has (λ k. k ≤ length s) (eqb (get_or s 0 0) 60) (closed_len (later 1 (address_scan (drop 1 s))) s) 0 (λ t. closed_le (later 1 (address_scan (drop 1 s)))) (λ t. omega arith)

-- ---- a clause

-- what is left from a place on, as code lends it
pub rest : (s : List ℕ) (at : ℕ) → take (length s - at) (drop at s) ≡ drop at s
rest s at = take_all (length s - at) (drop at s) (rw length-drop (omega arith))

-- the tests of code
pub for_is : (s part : List ℕ) {same white : Bool} {after : ℕ} → part ≡ take 3 s → same ≡ same_any_case part (102 ∷ 111 ∷ 114 ∷ []) → after ≡ get_or s 3 0 → white ≡ is_white after
    → same && (white || eqb after 60) ≡ is_for s
unfolding is_for bytes
for_is s part p q a w = rw (q, p, w, a)

-- the word has its three letters and a byte after them
pub for_long : (s : List ℕ) → is_for s ≡ true → 4 ≤ length s
unfolding is_for
for_long s e =
    by_test (ltb 3 (length s))
    (λ t. ltb_yes t)
    (λ t.
    let over : length s ≤ 3 = ltb_no t in
    let none : get_or s 3 0 ≡ 0 = get_or-eq_default s 0 {n = 3} over in
    absurd (true_yes false (sym (and-false (same_any_case (take 3 s) (bytes "for"))) ∙ rw none at e)))

-- a shorter text has no for
module _ (s : List ℕ) (h : length s < 4) where
  no_for : is_for (drop (white_len s) s) ≡ false
  no_for =
      by_test (is_for (drop (white_len s) s))
      (λ t. absurd (not-suc-le-zero {n = 0} (omega (arith, for_long (drop (white_len s) s) (yes_true (is_for (drop (white_len s) s)) t), length-drop (white_len s) s))))
      (λ t. no_false (is_for (drop (white_len s) s)) t)

  pub clause_short : 0 ≡ clause_len s
  unfolding clause_len
  clause_short = rw no_for

-- what stands after the word, as code lends it on
abbrev word_of : List ℕ → ℕ → List ℕ
word_of s w = take (length s - w) (drop w s)

abbrev more_of : List ℕ → ℕ → List ℕ
more_of s w = take (length (word_of s w) - 3) (drop 3 (word_of s w))

more_is : (s : List ℕ) (w : ℕ) → more_of s w ≡ drop 3 (drop w s)
more_is s w = rest (word_of s w) 3 ∙ ap (λ (l : List ℕ). drop 3 l) (rest s w)

module _ (s : List ℕ) (w : ℕ) (qw : w ≡ white_len s) where
  module _ (q : is_for (take (length s - w) (drop w s)) ≡ false) where
    no_word : is_for (drop (white_len s) s) ≡ false
    no_word = rw (← qw, ← rest s w) q

    pub clause_other : 0 ≡ clause_len s
    unfolding clause_len
    clause_other = rw no_word

  module _ (q : is_for (take (length s - w) (drop w s)) ≡ true) where
    is_word_lem : is_for (drop (white_len s) s) ≡ true
    is_word_lem = rw (← qw, ← rest s w) q

    pub word_long : w + 4 ≤ length s
    word_long = let k : 4 ≤ length (drop w s) = for_long (drop w s) (rw (rest s w) at q) in omega (arith, length-drop w s)

    pub more_long : 3 ≤ length (word_of s w)
    more_long = let k : 4 ≤ length (word_of s w) = for_long (word_of s w) q in omega arith

    -- after the word: b bytes of white space, and n of the address in angle brackets
    module _ (b n : ℕ) (qb : b ≡ white_len (more_of s w)) (qn : n ≡ angled_len (take (length (more_of s w) - b) (drop b (more_of s w)))) where
      angled : angled_len (drop (white_len (drop 3 (drop (white_len s) s))) (drop 3 (drop (white_len s) s))) ≡ n
      angled = rw (← qw, ← more_is s w, ← qb, ← rest (more_of s w) b) (sym qn)

      pub clause_bare : n ≡ 0 → 0 ≡ clause_len s
      unfolding clause_len
      clause_bare z = rw (is_word_lem, angled, z)

      pub clause_there : (n ≡ 0 → ⊥) → w + 3 + b + n ≡ clause_len s
      unfolding clause_len
      clause_there z = rw (is_word_lem, angled, ne_eqb n 0 z, ← qw, ← more_is s w, ← qb)

      pub clause_long : w + 3 + b + n ≤ length s
      clause_long =
          let size : length (more_of s w) ≡ length s - w - 3 = ap length (more_is s w) ∙ (length-drop 3 (drop w s) ∙ ap (λ k. k - 3) (length-drop w s)) in
          let white : b ≤ length (more_of s w) = rw qb (white_le (more_of s w)) in
          let there : n ≤ length (more_of s w) - b = rw (← length-drop b (more_of s w), ← rest (more_of s w) b, qn) (angled_le (take (length (more_of s w) - b) (drop b (more_of s w)))) in
          omega (arith, word_long)

-- ---- in the text

pub clause_le : (s : List ℕ) → clause_len s ≤ length s
unfolding clause_len
clause_le s =
    let w = white_len s in
    let more = drop 3 (drop w s) in
    let n = angled_len (drop (white_len more) more) in
    cond_has (λ k. k ≤ length s) (is_for (drop w s)) (cond (eqb n 0) 0 (w + 3 + white_len more + n)) 0
    (λ t. cond_has (λ k. k ≤ length s) (eqb n 0) 0 (w + 3 + white_len more + n)
    (λ u. omega arith)
    (λ u. omega (arith, for_long (drop w s) (yes_true (is_for (drop w s)) t), white_le more, angled_le (drop (white_len more) more), length-drop (white_len more) more, length-drop 3 (drop w s), length-drop w s)))
    (λ t. omega arith)

-- ---- a clause ends with `>` (62)

closed_last : (s : List ℕ) (r : Result ℕ ℕ) → 0 < closed_len r s → get_or s (closed_len r s - 1) 0 ≡ 62
unfolding closed_len
closed_last s (Ok n) h =
    cond_has (λ k. 0 < k → get_or s (k - 1) 0 ≡ 62) (eqb (get_or s n 0) 62) (n + 1) 0
    (λ t k. let e : n + 1 - 1 ≡ n = omega arith in rw e (eqb→eq (get_or s n 0) 62 t))
    (λ t k. absurd (not-suc-le-zero k)) h
closed_last s (Err n) h = absurd (not-suc-le-zero h)

angled_last : (s : List ℕ) → 0 < angled_len s → get_or s (angled_len s - 1) 0 ≡ 62
unfolding angled_len
angled_last s h =
    let r = later 1 (address_scan (drop 1 s)) in
    cond_has (λ k. 0 < k → get_or s (k - 1) 0 ≡ 62) (eqb (get_or s 0 0) 60) (closed_len r s) 0
    (λ t k. closed_last s r k) (λ t k. absurd (not-suc-le-zero k)) h

pub clause_last : (s : List ℕ) → 0 < clause_len s → get_or s (clause_len s - 1) 0 ≡ 62
unfolding clause_len
clause_last s h =
    let w = white_len s in
    let more = drop 3 (drop w s) in
    let m = white_len more in
    let n = angled_len (drop m more) in
    cond_has (λ k. 0 < k → get_or s (k - 1) 0 ≡ 62) (is_for (drop w s)) (cond (eqb n 0) 0 (w + 3 + m + n)) 0
    (λ t. cond_has (λ k. 0 < k → get_or s (k - 1) 0 ≡ 62) (eqb n 0) 0 (w + 3 + m + n)
    (λ u k. absurd (not-suc-le-zero k))
    (λ u k.
    let none = eqb_no {a = n} {b = 0} u in
    let some : 0 < n = omega arith in
    let there : w + 3 + m + n - 1 ≡ w + (3 + (m + (n - 1))) = omega arith in
    rw there
    (sym (get_or-drop w s (3 + (m + (n - 1))) 0)
    ∙ (sym (get_or-drop 3 (drop w s) (m + (n - 1)) 0) ∙ (sym (get_or-drop m more (n - 1) 0) ∙ angled_last (drop m more) some)))))
    (λ t k. absurd (not-suc-le-zero k)) h
