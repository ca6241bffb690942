-- Laws of a fixed word in any case, byte by byte.
use Rattle.std.specs.Prelude.{◌≡◌, refl, Bool, true, false, not, ◌&&◌, List, [], ◌∷◌, ℕ, suc, ◌+◌, ◌≤◌, ◌<◌, leb, ltb, length, take, drop, get_or}
use Rattle.std.proofs.Common.{◌∙◌, add-one, arith, eqb→eq, drop_of_length-le, drop-cons, lt-ltb, le-ltb, le-leb, ne_eqb}
use Rattle.std.proofs.Math.Bool.{and_assoc, and-false}
use Rattle.std.proofs.Math.Dec.{T, eqb, leb-zero}
use Rattle.std.proofs.Math.Facts.{and_yes, ltb_yes, ltb_no, eqb_no}
use Rattle.std.proofs.lemmas.Bool.{lt-leb}
use Rattle.lists.specs.ListsLaws.{by_test, yes_true, no_false}
use Rattle.lists.specs.Byte.{is_ascii}
use Rattle.lists.specs.ByteLaws.{all_below, below}
use Rattle.letter_case.specs.LetterCase.{lower, same_any_case}
use Rattle.line_stop.specs.Word.{is_next, matched}

-- ---- which texts complete the word, n bytes of which have come

unfoldable pub names : List ℕ → ℕ → List ℕ → Bool
names word n w = leb n (length word) && same_any_case (drop n word) w

pub names_none : (word w : List ℕ) → names word 0 w ≡ same_any_case word w
unfolding names
names_none word w = rw (leb-zero (length word))

same_none : (w : List ℕ) (n : ℕ) → n < length w → same_any_case (drop n w) [] ≡ false
unfolding same_any_case
same_none w n h = rw (drop-cons w n 0 h)

le_eq : (n m : ℕ) → m ≤ n → leb n m && true ≡ eqb n m
le_eq n m h =
    by_test (eqb n m)
    (λ u. let e : n ≡ m = eqb→eq n m u in rw (yes_true (eqb n m) u, le-leb n m (omega arith)))
    (λ u. let z = eqb_no {a = n} {b = m} u in rw (no_false (eqb n m) u, lt-leb n m (omega (arith, z))))

pub names_end : (word : List ℕ) (n : ℕ) → names word n [] ≡ eqb n (length word)
unfolding names same_any_case
names_end word n =
    by_test (ltb n (length word))
    (λ t. let h : n < length word = ltb_yes t in rw (same_none word n h, le-leb n (length word) (omega arith), ne_eqb n (length word) (λ e. omega arith)))
    (λ t.
    let h : length word ≤ n = ltb_no {a = n} {b = length word} t in
    rw (drop_of_length-le word {i = n} h) (le_eq n (length word) h))

pub names_step : (word : List ℕ) (n b : ℕ) (w : List ℕ) → names word n (b ∷ w) ≡ names word (matched word n b) w
unfolding names matched is_next same_any_case
names_step word n b w =
    by_test (ltb n (length word))
    (λ t.
    let h : n < length word = ltb_yes t in
    by_test (eqb (lower (get_or word n 0)) (lower b))
    (λ u.
    rw (yes_true (ltb n (length word)) t, yes_true (eqb (lower (get_or word n 0)) (lower b)) u, drop-cons word n 0 h, le-leb n (length word) (omega arith), le-leb (suc n) (length word) (omega arith))
    (rw (yes_true (eqb (lower (get_or word n 0)) (lower b)) u)))
    (λ u.
    rw (yes_true (ltb n (length word)) t, no_false (eqb (lower (get_or word n 0)) (lower b)) u, drop-cons word n 0 h, le-leb n (length word) (omega arith), lt-leb (suc (length word)) (length word) (omega arith))
    (rw (no_false (eqb (lower (get_or word n 0)) (lower b)) u))))
    (λ t.
    let h : length word ≤ n = ltb_no {a = n} {b = length word} t in
    rw (no_false (ltb n (length word)) t, drop_of_length-le word {i = n} h, and-false (leb n (length word)), lt-leb (suc (length word)) (length word) (omega arith)))

-- ---- a word at the front of a text, and what passes after it

unfoldable pub begins : List ℕ → (List ℕ → Bool) → List ℕ → Bool
begins [] k l = k l
begins (x ∷ w) k [] = false
begins (x ∷ w) k (b ∷ l) = eqb (lower x) (lower b) && begins w k l

pub begins_is : (w : List ℕ) (k : List ℕ → Bool) (l : List ℕ) → same_any_case w (take (length w) l) && k (drop (length w) l) ≡ begins w k l
unfolding begins same_any_case
begins_is [] k l = refl
begins_is (x ∷ w) k [] = refl
begins_is (x ∷ w) k (b ∷ l) =
    and_assoc (eqb (lower x) (lower b)) (same_any_case w (take (length w) l)) (k (drop (length w) l)) ∙ rw (begins_is w k l)

module _ (word : List ℕ) (n : ℕ) (k : List ℕ → Bool) (h : n < length word) where
  pub begins_short : begins (drop n word) k [] ≡ false
  unfolding begins
  begins_short = rw (drop-cons word n 0 h)

  begins_next : (b : ℕ) (l : List ℕ) → begins (drop n word) k (b ∷ l) ≡ eqb (lower (get_or word n 0)) (lower b) && begins (drop (suc n) word) k l
  unfolding begins
  begins_next b l = rw (drop-cons word n 0 h)

module _ (word : List ℕ) (n b : ℕ) where
  pub next_within : T (is_next word n b) → n < length word
  unfolding is_next
  next_within t = ltb_yes (and_yes (ltb n (length word)) (eqb (lower (get_or word n 0)) (lower b)) t).0

  pub begins_more : (k : List ℕ → Bool) (l : List ℕ) → T (is_next word n b) → begins (drop n word) k (b ∷ l) ≡ begins (drop (suc n) word) k l
  unfolding is_next
  begins_more k l t =
      let same = eqb (lower (get_or word n 0)) (lower b) in
      begins_next word n k (next_within t) b l ∙ rw (yes_true same (and_yes (ltb n (length word)) same t).1)

  pub begins_other : (k : List ℕ → Bool) (l : List ℕ) → n < length word → T (not (is_next word n b)) → begins (drop n word) k (b ∷ l) ≡ false
  unfolding is_next
  begins_other k l h t =
      let same = eqb (lower (get_or word n 0)) (lower b) in
      let u : T (not same) = rw (lt-ltb n (length word) h) at t in
      begins_next word n k h b l ∙ rw (no_false same u)

-- ---- bytes that a word does not have, by one computed test of the word

next_none : (word : List ℕ) (b : ℕ) → ((n : ℕ) → n < length word → eqb (lower (get_or word n 0)) (lower b) ≡ false) → (n : ℕ) → is_next word n b ≡ false
unfolding is_next
next_none word b each n =
    by_test (ltb n (length word))
    (λ t. rw (yes_true (ltb n (length word)) t) (each n (ltb_yes t)))
    (λ t. rw (no_false (ltb n (length word)) t))

pub next_never : (word : List ℕ) (b : ℕ) → T (all_below (λ i. not (eqb (lower (get_or word i 0)) (lower b))) (length word)) → (n : ℕ) → is_next word n b ≡ false
next_never word b t =
    next_none word b (λ n h. no_false (eqb (lower (get_or word n 0)) (lower b)) (below (λ i. not (eqb (lower (get_or word i 0)) (lower b))) (length word) t n h))

high_lower : (b : ℕ) → 128 ≤ b → lower b ≡ b
unfolding lower
high_lower b h = rw (lt-leb b 90 (omega arith), and-false (leb 65 b))

pub next_high : (word : List ℕ) → T (all_below (λ i. is_ascii (lower (get_or word i 0))) (length word)) → (b : ℕ) → 128 ≤ b → (n : ℕ) → is_next word n b ≡ false
next_high word t b h =
    next_none word b
    (λ n k.
    let low : lower (get_or word n 0) < 128 = ltb_yes (below (λ i. is_ascii (lower (get_or word i 0))) (length word) t n k) in
    rw (high_lower b h) (ne_eqb (lower (get_or word n 0)) b (λ e. omega (arith, low, e))))

-- ---- the tests one after another, as code makes them

module _ (word : List ℕ) (n b : ℕ) where
  pub next_past : length word ≤ n → false ≡ is_next word n b
  unfolding is_next
  next_past h = rw (le-ltb n (length word) h)

  pub next_inside : n < length word → eqb (lower (get_or word n 0)) (lower b) ≡ is_next word n b
  unfolding is_next
  next_inside h = rw (lt-ltb n (length word) h)

  pub matched_more : is_next word n b ≡ true → n + 1 ≡ matched word n b
  unfolding matched
  matched_more e = rw (e, add-one)

  pub matched_other : is_next word n b ≡ false → length word + 1 ≡ matched word n b
  unfolding matched
  matched_other e = rw (e, add-one)
