-- Laws of lines: by position, as code goes from CR to CR.
use Rattle.std.specs.Prelude.{◌≡◌, refl, true, false, not, ◌&&◌, List, [], ◌∷◌, ℕ, suc, ◌+◌, ◌-◌, ◌≤◌, ◌<◌, min, leb, ltb, eqb, length, take, drop, get_or}
use Rattle.std.proofs.Common.{ap, sym, ◌∙◌, add-zero, add-one, arith, eqb→eq, length-drop, drop_of_length-le, take_all, take-add, drop_at, drop-cons, drop-drop, length-take-le}
use Rattle.std.specs.Prelude.{Option, Some, None}
use Rattle.std.specs.Option.{unwrap_or, option_copied}
use Rattle.std.specs.Slice.{IsItemAt}
use Rattle.std.proofs.lemmas.Grind.{get_or_default_zero}
use Rattle.std.proofs.Common.{Bor}
use Rattle.std.proofs.Math.Bool.{and-false}
use Rattle.std.proofs.Math.ListN.{get_or-eq_default}
use Rattle.std.proofs.Math.Seq.{take-nil, get_or-drop}
use Rattle.std.proofs.lemmas.Bool.{not-false}
use Rattle.lists.specs.ListsLaws.{by_test, cond_has, yes_true, no_false, true_yes}
use Rattle.lists.specs.Run.{run}
use Rattle.lists.specs.RunLaws.{run_after}
use Rattle.std.proofs.Math.Facts.{and_yes, leb_yes, leb_no, ltb_yes, ltb_no}
use Rattle.buffer.specs.Buffer.{greatest}
use Rattle.line.specs.Line.{crlf, line_len, not_cr, cr_run}

-- no CRLF stands before the first CR
pub line_cr : (s : List ℕ) → line_len s ≡ cr_run s + line_len (drop (cr_run s) s)
unfolding line_len crlf run
line_cr [] = refl
line_cr (b ∷ s) =
    by_test (eqb b 13) (λ t. here (cr_run (b ∷ s)) (rw (yes_true (eqb b 13) t)))
    (λ t. rw (no_false (eqb b 13) t) (omega (arith, line_cr s)))
  where
    here : (n : ℕ) → n ≡ 0 → line_len (b ∷ s) ≡ n + line_len (drop n (b ∷ s))
    here n e = rw e (omega arith)

pub line_none : (s : List ℕ) → crlf s ≡ true → line_len s ≡ 0
unfolding line_len
line_none [] e = refl
line_none (b ∷ s) e = rw e

line_more : (b : ℕ) (s : List ℕ) → crlf (b ∷ s) ≡ false → line_len (b ∷ s) ≡ suc (line_len s)
unfolding line_len
line_more b s e = rw e

module _ (s : List ℕ) (i : ℕ) where
  -- CRLF at a place, as code tests it
  pub crlf_at_lem : crlf (drop i s) ≡ eqb (get_or s i 0) 13 && eqb (get_or s (i + 1) 0) 10
  unfolding crlf
  crlf_at_lem = rw (get_or-drop i s 0 0, get_or-drop i s 1 0, add-zero)

  pub crlf_past : length s ≤ i → false ≡ crlf (drop i s)
  unfolding crlf
  crlf_past h = rw (drop_of_length-le s {i = i} h)

  pub line_next_cr : (r : ℕ) → r ≡ i + cr_run (drop i s) → i + line_len (drop i s) ≡ r + line_len (drop r s)
  line_next_cr r e = let k = line_cr (drop i s) in let d = drop-drop (cr_run (drop i s)) i s in rw (e, ← d) (omega arith)

  -- the byte there
  pub cr_there : (r : ℕ) → r ≡ i + cr_run (drop i s) → r < length s → get_or s r 0 ≡ 13
  cr_there r e h =
      let n = run not_cr (drop i s) in
      let k : n < length (drop i s) = rw length-drop (omega arith) in
      let b : not (eqb (get_or s r 0) 13) ≡ false = rw (get_or-drop i s n 0, ← e) at (run_after not_cr (drop i s) k) in
      eqb→eq (get_or s r 0) 13 (true_yes (eqb (get_or s r 0) 13) (not-false (eqb (get_or s r 0) 13) b))

  pub line_here : get_or s i 0 ≡ 13 → eqb (get_or s (i + 1) 0) 10 ≡ true → i + line_len (drop i s) ≡ i
  line_here e t = rw (line_none (drop i s) (rw (crlf_at_lem, e, t))) (omega arith)

  pub line_lone_cr : i < length s → eqb (get_or s (i + 1) 0) 10 ≡ false → i + line_len (drop i s) ≡ i + 1 + line_len (drop (i + 1) s)
  line_lone_cr h t =
      let c : crlf (get_or s i 0 ∷ drop (suc i) s) ≡ false = rw (← drop-cons s i 0 h, crlf_at_lem, t) (and-false (eqb (get_or s i 0) 13)) in
      rw (add-one, drop-cons s i 0 h, line_more (get_or s i 0) (drop (suc i) s) c) (omega arith)

  pub line_past : length s ≤ i → i + line_len (drop i s) ≡ i
  unfolding line_len
  line_past h = rw (drop_of_length-le s {i = i} h) (omega arith)

pub crlf_inside : (h : List ℕ) (e : ℕ) → crlf (drop e h) ≡ true → e + 2 ≤ length h
unfolding crlf
crlf_inside h e t =
    let both = and_yes (eqb (get_or (drop e h) 0 0) 13) (eqb (get_or (drop e h) 1 0) 10) (true_yes (eqb (get_or (drop e h) 0 0) 13 && eqb (get_or (drop e h) 1 0) 10) t) in
    let lf : get_or h (e + 1) 0 ≡ 10 = sym (get_or-drop e h 1 0) ∙ eqb→eq (get_or (drop e h) 1 0) 10 both.1 in
    by_test (leb (length h) (e + 1))
    (λ u. absurd (omega (arith, sym (get_or-eq_default h 0 {n = e + 1} (leb_yes u)) ∙ lf)))
    (λ u. omega (arith, leb_no {a = length h} {b = e + 1} u))

pub line_le : (s : List ℕ) → line_len s ≤ length s
unfolding line_len
line_le [] = omega arith
line_le (b ∷ s) = let k = line_le s in cond_has (λ n. n ≤ suc (length s)) (crlf (b ∷ s)) 0 (suc (line_len s)) (λ t. omega arith) (λ t. omega arith)

-- ---- the line at the front, with its CRLF

crlf_take : (n : ℕ) (s : List ℕ) → crlf (take (suc (suc n)) s) ≡ crlf s
unfolding crlf
crlf_take n [] = refl
crlf_take n (a ∷ []) = refl
crlf_take n (a ∷ b ∷ s) = refl

len_front : (n : ℕ) (s : List ℕ) → n ≡ line_len s → line_len (take (suc (suc n)) s) ≡ line_len s
len_front n [] e = refl
len_front n (b ∷ s) e =
    by_test (crlf (b ∷ s))
    (λ t. let c = yes_true (crlf (b ∷ s)) t in
    line_none (take (suc (suc n)) (b ∷ s)) (crlf_take n (b ∷ s) ∙ c) ∙ sym (line_none (b ∷ s) c))
    (λ t. let c = no_false (crlf (b ∷ s)) t in
    let m : n ≡ suc (line_len s) = e ∙ line_more b s c in
    line_more b (take (suc n) s) (crlf_take n (b ∷ s) ∙ c)
    ∙ ap (λ k. suc (line_len (take (suc k) s))) m
    ∙ ap suc (len_front (line_len s) s refl)
    ∙ sym (line_more b s c))

module _ (s : List ℕ) where
  pub line_front : line_len (take (line_len s + 2) s) ≡ line_len s
  line_front = let m : line_len s + 2 ≡ suc (suc (line_len s)) = omega arith in rw m (len_front (line_len s) s refl)

  pub crlf_front : crlf (drop (line_len s) (take (line_len s + 2) s)) ≡ crlf (drop (line_len s) s)
  crlf_front =
      let n = line_len s in
      rw (take-add n 2 s, drop_at (take n s) (take 2 (drop n s)) n (length-take-le n s (line_le s))) (crlf_take 0 (drop n s))

-- ---- parts

-- a part between places that are clipped
pub part_clipped : (s : List ℕ) (from to start end : ℕ) → end ≡ min to (length s) → start ≡ min from end
    → take (end - start) (drop start s) ≡ take (to - from) (drop from s)
part_clipped s from to start end h k =
    by_test (ltb from end)
    (λ t. let lt = ltb_yes {a = from} {b = end} t in let e : start ≡ from = omega arith in rw e (by_test (leb to (length s))
    (λ u. let le = leb_yes {a = to} {b = length s} u in let f : end ≡ to = omega arith in rw f)
    (λ u. let gt = leb_no {a = to} {b = length s} u in
    let m : length (drop from s) ≤ end - from = rw length-drop (omega arith) in
    let n : length (drop from s) ≤ to - from = rw length-drop (omega arith) in
    rw (take_all (end - from) (drop from s) m, take_all (to - from) (drop from s) n))))
    (λ t. let ge = ltb_no {a = from} {b = end} t in let e : end - start ≡ 0 = omega arith in rw e (by_test (leb to (length s))
    (λ u. let le = leb_yes {a = to} {b = length s} u in let f : to - from ≡ 0 = omega arith in rw f)
    (λ u. let gt = leb_no {a = to} {b = length s} u in
    let m : length s ≤ from = omega arith in rw (drop_of_length-le s {i = from} m, take-nil))))

-- a part up to the end
pub part_rest : (s : List ℕ) (from : ℕ) → take (length s - from) (drop from s) ≡ drop from s
part_rest s from = take_all (length s - from) (drop from s) (rw length-drop (omega arith))

-- a part of a given length
pub part_of : (s : List ℕ) (from n to : ℕ) → to ≡ from + n → take (to - from) (drop from s) ≡ take n (drop from s)
part_of s from n to e = let k : to - from ≡ n = omega arith in rw k

-- a place that is capped at the greatest usize
pub drop_capped : (s : List ℕ) (n r : ℕ) → r ≡ min n greatest → length s ≤ greatest → drop r s ≡ drop n s
drop_capped s n r e h =
    by_test (leb n greatest) (λ t. let k : r ≡ n = omega (arith, leb_yes {a = n} {b = greatest} t) in rw k)
    (λ t. let k : length s ≤ r = omega (arith, leb_no {a = n} {b = greatest} t) in let m : length s ≤ n = omega (arith, leb_no {a = n} {b = greatest} t) in
    rw (drop_of_length-le s {i = r} k, drop_of_length-le s {i = n} m))

-- the byte at a place, as a slice's `get` answers it
pub item_or : (s : List ℕ) (i : ℕ) (r : Option (Bor ℕ)) → IsItemAt s i r → unwrap_or (option_copied r) 0 ≡ get_or s i 0
item_or s i None h = sym (get_or-eq_default s 0 {n = i} (ltb_no (true_yes (not (ltb i (length s))) (ap not (sym h.0)))))
item_or s i (Some x) h = h.1 ∙ get_or_default_zero s i x.now (ltb_yes (true_yes (ltb i (length s)) (sym h.0)))
