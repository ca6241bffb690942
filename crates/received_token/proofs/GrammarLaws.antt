-- `clause_len` takes exactly what the grammar of FOR clauses makes.
use Rattle.std.proofs.Common.{ne_eqb, sym, ◌∙◌, not-suc-le-zero, length-append, take-add, take_at, drop-cons, drop_at, get_or-append-add}
use Rattle.std.proofs.lemmas.Bool.{lt-leb}
use Rattle.std.specs.Prelude.{◌≡◌, refl, true, false, cond, ◌&&◌, ◌||◌, T, eqb, drop, Result, Ok, Err}
use Rattle.std.proofs.Math.Path.{ap}
use mathlib.Core.List.{List, [], ◌∷◌, ◌++◌, append_assoc}
use Prim.Native.Nat.{ℕ, suc, ◌+◌, ◌<◌}
use native.Mathlib.Omega.{arith}
use Rattle.std.proofs.Math.Dec.{eqb→eq}
use Rattle.std.proofs.Math.Facts.{and_yes, eqb_no}
use Rattle.std.proofs.Math.ListN.{length, take, get_or}
use Rattle.std.proofs.Math.Seq.{take-suc, get_or-drop, get_or-append_seam}
use Rattle.lists.specs.Lists.{all}
use Rattle.lists.specs.ListsLaws.{by_test, cond_has, yes_true, no_false}
use Rattle.lists.specs.Run.{run}
use Rattle.lists.specs.RunLaws.{run_all, run_past}
use Rattle.letter_case.specs.LetterCase.{bytes, lower, same_any_case}
use Rattle.address.specs.Address.{later, address_scan, is_atom_byte, is_atext}
use Rattle.address.specs.AddressLaws.{byte_within}
use Rattle.address.specs.GrammarLaws.{Closed, address_sound, address_complete}
use Rattle.received_token.specs.Clause.{white_len, is_for, closed_len, angled_len, clause_len}
use Rattle.structured_token.specs.Tokens.{is_white}
use Rattle.received_token.proofs.ClauseLaws.{angled_closed}
use Rattle.received_token.specs.Grammar.{Angled, Clause}

-- ---- an address in angle brackets

angle_closed : (rest : List ℕ) → Closed (62 ∷ rest)
unfolding is_atom_byte is_atext
angle_closed rest = record { atom = refl; dot = refl }

angled_taken : {x : List ℕ} → Angled x → (rest : List ℕ) → length x ≡ angled_len (x ++ rest)
unfolding later
angled_taken (Angled.angled {address} g) rest =
    let text : (address ++ (62 ∷ [])) ++ rest ≡ address ++ (62 ∷ rest) = append_assoc address (62 ∷ []) rest in
    let whole : List ℕ = 60 ∷ (address ++ (62 ∷ rest)) in
    let scan : later 1 (address_scan (address ++ (62 ∷ rest))) ≡ Ok (1 + length address) = rw (address_complete g (62 ∷ rest) (angle_closed rest)) in
    let next : 1 + length address ≡ suc (length address) = omega arith in
    let last : get_or whole (1 + length address) 0 ≡ 62 = rw next (get_or-append_seam (60 ∷ address) 62 rest 0) in
    let size : length (60 ∷ (address ++ (62 ∷ []))) ≡ 1 + length address + 1 = omega (arith, length-append address (62 ∷ [])) in
    rw text (size ∙ angled_closed whole refl scan last)

module _ (s : List ℕ) (o : get_or s 0 0 ≡ 60) where
  opened : s ≡ 60 ∷ drop 1 s
  opened = drop-cons s 0 0 (byte_within s 0 59 o) ∙ ap (λ b. b ∷ drop 1 s) o

  closed_angled : (r : Result ℕ ℕ) → address_scan (drop 1 s) ≡ r → 0 < closed_len (later 1 r) s → Angled (take (closed_len (later 1 r) s) s)
  unfolding later closed_len
  closed_angled (Err n) e h = absurd (not-suc-le-zero h)
  closed_angled (Ok n) e h =
      cond_has (λ k. 0 < k → Angled (take k s)) (eqb (get_or s (1 + n) 0) 62) (1 + n + 1) 0
      (λ t k.
      let last : get_or s (1 + n) 0 ≡ 62 = eqb→eq (get_or s (1 + n) 0) 62 t in
      let there : get_or (drop 1 s) n 0 ≡ 62 = get_or-drop 1 s n 0 ∙ last in
      let less : n < length (drop 1 s) = byte_within (drop 1 s) n 61 there in
      let sum : 1 + n + 1 ≡ suc (suc n) = omega arith in
      let front : take (suc (suc n)) s ≡ 60 ∷ take (suc n) (drop 1 s) = ap (λ (l : List ℕ). take (suc (suc n)) l) opened in
      let back : take (suc n) (drop 1 s) ≡ take n (drop 1 s) ++ (62 ∷ []) = take-suc (drop 1 s) n 0 less ∙ ap (λ b. take n (drop 1 s) ++ (b ∷ [])) there in
      rw (sum, front, back) (Angled.angled (address_sound (drop 1 s) n e)))
      (λ t k. absurd (not-suc-le-zero k)) h

taken_angled : (s : List ℕ) → 0 < angled_len s → Angled (take (angled_len s) s)
unfolding angled_len
taken_angled s h =
    let r = address_scan (drop 1 s) in
    cond_has (λ k. 0 < k → Angled (take k s)) (eqb (get_or s 0 0) 60) (closed_len (later 1 r) s) 0
    (λ t k. closed_angled s (eqb→eq (get_or s 0 0) 60 t) r refl k)
    (λ t k. absurd (not-suc-le-zero k)) h

-- ---- the word

pub white_low : (b : ℕ) → T (is_white b) → b < 33
white_low b h =
    by_test (eqb b 32)
    (λ t. omega (arith, eqb→eq b 32 t))
    (λ t. by_test (eqb b 9)
    (λ u. omega (arith, eqb→eq b 9 u))
    (λ u. by_test (eqb b 13)
    (λ v. omega (arith, eqb→eq b 13 v))
    (λ v. omega (arith, eqb→eq b 10 (rw (no_false (eqb b 32) t, no_false (eqb b 9) u, no_false (eqb b 13) v) at h)))))

letter_not_white : (b : ℕ) → T (eqb (lower b) 102) → is_white b ≡ false
unfolding lower
letter_not_white b h =
    by_test (is_white b)
    (λ t.
    let low = white_low b t in
    let same : lower b ≡ b = rw (lt-leb 65 b (omega arith)) in
    absurd (not-suc-le-zero {n = 0} (omega (arith, eqb→eq (lower b) 102 h))))
    (λ t. no_false (is_white b) t)

small_f : lower 102 ≡ 102
unfolding lower
small_f = refl

-- the word has three bytes, and no white space at its front
word_front : (word rest : List ℕ) → T (same_any_case word (bytes "for")) → (length word ≡ 3) × (run is_white (word ++ rest) ≡ 0)
unfolding same_any_case bytes run
word_front [] rest h = absurd h
word_front (a ∷ []) rest h = absurd (and_yes (eqb (lower a) (lower 102)) false h).1
word_front (a ∷ b ∷ []) rest h =
    absurd (and_yes (eqb (lower b) (lower 111)) false (and_yes (eqb (lower a) (lower 102)) (eqb (lower b) (lower 111) && false) h).1).1
word_front (a ∷ b ∷ c ∷ d ∷ more) rest h =
    let one = and_yes (eqb (lower a) (lower 102)) (eqb (lower b) (lower 111) && (eqb (lower c) (lower 114) && false)) h in
    let two = and_yes (eqb (lower b) (lower 111)) (eqb (lower c) (lower 114) && false) one.1 in
    absurd (and_yes (eqb (lower c) (lower 114)) false two.1).1
word_front (a ∷ b ∷ c ∷ []) rest h =
    let one = and_yes (eqb (lower a) (lower 102)) (eqb (lower b) (lower 111) && (eqb (lower c) (lower 114) && true)) h in
    (refl, rw (letter_not_white a (rw small_f at one.0)))

-- white space or `<` after the word
after_word : (after x : List ℕ) → T (all is_white after) → get_or x 0 0 ≡ 60 → is_white (get_or (after ++ x) 0 0) || eqb (get_or (after ++ x) 0 0) 60 ≡ true
after_word [] x h e = rw e
after_word (b ∷ after) x h e = rw (yes_true (is_white b) (and_yes (is_white b) (all is_white after) h).0)

front_for : (word after x : List ℕ) → T (same_any_case word (bytes "for")) → T (all is_white after) → get_or x 0 0 ≡ 60 → is_for (word ++ (after ++ x)) ≡ true
unfolding is_for
front_for word after x w a e =
    let t : List ℕ = after ++ x in
    let size = (word_front word t w).0 in
    let next : get_or (word ++ t) 3 0 ≡ get_or t 0 0 = rw size at (get_or-append-add word t 0 0) in
    rw (take_at word t 3 size, next, yes_true (same_any_case word (bytes "for")) w) (after_word after x a e)

-- ---- a clause

angled_front : {x : List ℕ} → Angled x → (rest : List ℕ) → (get_or (x ++ rest) 0 0 ≡ 60) × ((run is_white (x ++ rest) ≡ 0) × (0 < length x))
unfolding run
angled_front (Angled.angled g) rest = (refl, (refl, omega arith))

clause_by : (s : List ℕ) (w m n : ℕ) → white_len s ≡ w → is_for (drop w s) ≡ true → white_len (drop 3 (drop w s)) ≡ m → n ≡ angled_len (drop m (drop 3 (drop w s))) → 0 < n
    → clause_len s ≡ w + 3 + m + n
unfolding clause_len
clause_by s w m n a f b c h = rw (a, f, b, ← c, ne_eqb n 0 (λ z. not-suc-le-zero {n = 0} (omega arith)))

-- a clause is taken, whatever follows it
pub clause_taken : {c : List ℕ} → Clause c → (rest : List ℕ) → clause_len (c ++ rest) ≡ length c
unfolding white_len
clause_taken (Clause.clause before word after {address} b w a g) rest =
    let t : List ℕ = address ++ rest in
    let s : List ℕ = before ++ (word ++ (after ++ t)) in
    let text : (before ++ (word ++ (after ++ address))) ++ rest ≡ before ++ (word ++ (after ++ (address ++ rest))) =
    append_assoc before (word ++ (after ++ address)) rest
    ∙ ap (λ (l : List ℕ). before ++ l) (append_assoc word (after ++ address) rest ∙ ap (λ (l : List ℕ). word ++ l) (append_assoc after address rest)) in
    let front = word_front word (after ++ t) w in
    let first = angled_front g rest in
    let there : drop (length before) s ≡ word ++ (after ++ t) = drop_at before (word ++ (after ++ t)) (length before) refl in
    let more : drop 3 (drop (length before) s) ≡ after ++ t = ap (λ (l : List ℕ). drop 3 l) there ∙ drop_at word (after ++ t) 3 front.0 in
    let last : drop (length after) (drop 3 (drop (length before) s)) ≡ t = ap (λ (l : List ℕ). drop (length after) l) more ∙ drop_at after t (length after) refl in
    let white : white_len s ≡ length before = run_past is_white before (word ++ (after ++ t)) b ∙ (ap (λ n. length before + n) front.1 ∙ omega arith) in
    let blanks : white_len (after ++ t) ≡ length after = run_past is_white after t a ∙ (ap (λ n. length after + n) first.1.0 ∙ omega arith) in
    let size : length (before ++ (word ++ (after ++ address))) ≡ length before + 3 + length after + length address =
    length-append before (word ++ (after ++ address)) ∙ omega (arith, length-append word (after ++ address), length-append after address, front.0) in
    rw text
    (clause_by s (length before) (length after) (length address) white (rw there (front_for word after t w a first.0)) (rw more blanks) (angled_taken g rest ∙ sym (ap angled_len last)) first.1.1
    ∙ sym size)

-- what is taken is a clause
pub taken_clause : (s : List ℕ) → 0 < clause_len s → Clause (take (clause_len s) s)
unfolding clause_len white_len is_for
taken_clause s h =
    let w = white_len s in
    let word = drop w s in
    let more = drop 3 word in
    let m = white_len more in
    let r = drop m more in
    let n = angled_len r in
    cond_has (λ k. 0 < k → Clause (take k s)) (is_for word) (cond (eqb n 0) 0 (w + 3 + m + n)) 0
    (λ t. cond_has (λ k. 0 < k → Clause (take k s)) (eqb n 0) 0 (w + 3 + m + n)
    (λ u k. absurd (not-suc-le-zero k))
    (λ u k.
    let none = eqb_no {a = n} {b = 0} u in
    let some : 0 < n = omega arith in
    let sum : w + 3 + m + n ≡ w + (3 + (m + n)) = omega arith in
    let same = (and_yes (same_any_case (take 3 word) (bytes "for")) (is_white (get_or word 3 0) || eqb (get_or word 3 0) 60) t).0 in
    let parts : take (w + (3 + (m + n))) s ≡ take w s ++ (take 3 word ++ (take m more ++ take n r)) =
    take-add w (3 + (m + n)) s ∙ ap (λ (l : List ℕ). take w s ++ l) (take-add 3 (m + n) word ∙ ap (λ (l : List ℕ). take 3 word ++ l) (take-add m n more)) in
    rw (sum, parts) (Clause.clause (take w s) (take 3 word) (take m more) (run_all is_white s) same (run_all is_white more) (taken_angled r some))))
    (λ t k. absurd (not-suc-le-zero k)) h

-- a clause has the word
pub clause_word : (s : List ℕ) → 0 < clause_len s → is_for (drop (white_len s) s) ≡ true
unfolding clause_len
clause_word s h =
    by_test (is_for (drop (white_len s) s))
    (λ t. yes_true (is_for (drop (white_len s) s)) t)
    (λ t. let z : 0 < 0 = rw (no_false (is_for (drop (white_len s) s)) t) at h in absurd (not-suc-le-zero z))

pub clause_some : {c : List ℕ} → Clause c → 0 < length c
clause_some (Clause.clause before word after {address} b w a g) =
    omega
    (arith, length-append before (word ++ (after ++ address)), length-append word (after ++ address), length-append after address, (angled_front g []).1.1)
