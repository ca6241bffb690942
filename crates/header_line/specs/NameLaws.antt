-- Laws of names by eights: a bit for each of eight bytes that is no name byte, by sums, and the first of them.
use Rattle.std.specs.Prelude.{◌≡◌, refl, Bool, true, false, cond, ◌&&◌, ◌||◌, List, [], ◌∷◌, ℕ, zero, suc, ◌+◌, ◌≤◌, ◌<◌, ◌%◌, T, eqb, ltb, length, take, drop, get_or}
use Rattle.std.proofs.Common.{ap, ◌∙◌, arith, eqb→eq, drop-cons}
use Rattle.std.proofs.Math.Path.{sym}
use Rattle.std.specs.Int.Count.{count_trailing_zeros}
use Rattle.std.proofs.Math.Facts.{and_yes, ltb_yes}
use Rattle.lists.specs.ListsLaws.{cond_has}
use Rattle.lists.specs.ByteLaws.{below}
use Rattle.lists.specs.Run.{run}
use Rattle.header_line.specs.Lines.{name_byte, name_len}

-- what a byte adds: 1, and w - 1 more where it is no name byte
pub record Weighed (b w r : ℕ) : Type 0 where
  pub is : r ≡ cond (name_byte b) 1 w
  pub small : r ≤ w + 1

pub weighed : (b w : ℕ) (t : Bool) (r : ℕ) → t ≡ name_byte b → r ≡ cond t 1 w → Weighed b w r
weighed b w t r e f = record {
  is = f ∙ rw e;
  small = rw f (cond_has (λ n. n ≤ w + 1) t 1 w (λ u. omega arith) (λ u. omega arith));
}

-- the sum, less 8
abbrev mask : ℕ → ℕ → ℕ → ℕ → ℕ → ℕ → ℕ → ℕ → ℕ
mask a b c d e f g h = (a + b + (c + d) + (e + f + (g + h)) + 248) % 256

abbrev mask_of : Bool → Bool → Bool → Bool → Bool → Bool → Bool → Bool → ℕ
mask_of a b c d e f g h = mask (cond a 1 2) (cond b 1 3) (cond c 1 5) (cond d 1 9) (cond e 1 17) (cond f 1 33) (cond g 1 65) (cond h 1 129)

-- how many of eight tests pass before the first that does not
abbrev passing : Bool → Bool → Bool → Bool → Bool → Bool → Bool → Bool → ℕ
passing a b c d e f g h =
    cond a (suc (cond b (suc (cond c (suc (cond d (suc (cond e (suc (cond f (suc (cond g (suc (cond h 1 0)) 0)) 0)) 0)) 0)) 0)) 0)) 0

abbrev every : (Bool → Bool) → Bool
every f = f true && f false

every_at : (f : Bool → Bool) → T (every f) → (b : Bool) → T (f b)
every_at f t true = (and_yes (f true) (f false) t).0
every_at f t false = (and_yes (f true) (f false) t).1

abbrev agrees : Bool → Bool → Bool → Bool → Bool → Bool → Bool → Bool → Bool
agrees a b c d e f g h = eqb (count_trailing_zeros 8 (mask_of a b c d e f g h)) (passing a b c d e f g h)

-- by one computed test of all
mask_first : (a b c d e f g h : Bool) → count_trailing_zeros 8 (mask_of a b c d e f g h) ≡ passing a b c d e f g h
unfolding count_trailing_zeros
mask_first a b c d e f g h =
    let t1 = every_at (λ a. every (λ b. every (λ c. every (λ d. every (λ e. every (λ f. every (λ g. every (λ h. agrees a b c d e f g h)))))))) tt a in
    let t2 = every_at (λ b. every (λ c. every (λ d. every (λ e. every (λ f. every (λ g. every (λ h. agrees a b c d e f g h))))))) t1 b in
    let t3 = every_at (λ c. every (λ d. every (λ e. every (λ f. every (λ g. every (λ h. agrees a b c d e f g h)))))) t2 c in
    let t4 = every_at (λ d. every (λ e. every (λ f. every (λ g. every (λ h. agrees a b c d e f g h))))) t3 d in
    let t5 = every_at (λ e. every (λ f. every (λ g. every (λ h. agrees a b c d e f g h)))) t4 e in
    let t6 = every_at (λ f. every (λ g. every (λ h. agrees a b c d e f g h))) t5 f in
    let t7 = every_at (λ g. every (λ h. agrees a b c d e f g h)) t6 g in
    let t8 = every_at (λ h. agrees a b c d e f g h) t7 h in
    eqb→eq (count_trailing_zeros 8 (mask_of a b c d e f g h)) (passing a b c d e f g h) t8

front : (s : List ℕ) (n k j : ℕ) → j ≡ suc k → k < length s → take (suc n) (drop k s) ≡ get_or s k 0 ∷ take n (drop j s)
front s n k j e h = rw (e, drop-cons s k 0 h)

eight : (s : List ℕ) (i : ℕ) → i + 8 ≤ length s → take 8 (drop i s)
    ≡ get_or s i 0 ∷ get_or s (i + 1) 0 ∷ get_or s (i + 2) 0 ∷ get_or s (i + 3) 0 ∷ get_or s (i + 4) 0 ∷ get_or s (i + 5) 0 ∷ get_or s (i + 6) 0 ∷ get_or s (i + 7) 0 ∷ []
eight s i h =
    let g : ℕ → ℕ = λ k. get_or s k 0 in
    front s 7 i (i + 1) (omega arith) (omega arith)
    ∙ ap (λ (r : List ℕ). g i ∷ r) (front s 6 (i + 1) (i + 2) (omega arith) (omega arith)
    ∙ ap (λ (r : List ℕ). g (i + 1) ∷ r) (front s 5 (i + 2) (i + 3) (omega arith) (omega arith)
    ∙ ap (λ (r : List ℕ). g (i + 2) ∷ r) (front s 4 (i + 3) (i + 4) (omega arith) (omega arith)
    ∙ ap (λ (r : List ℕ). g (i + 3) ∷ r) (front s 3 (i + 4) (i + 5) (omega arith) (omega arith)
    ∙ ap (λ (r : List ℕ). g (i + 4) ∷ r) (front s 2 (i + 5) (i + 6) (omega arith) (omega arith)
    ∙ ap (λ (r : List ℕ). g (i + 5) ∷ r) (front s 1 (i + 6) (i + 7) (omega arith) (omega arith)
    ∙ ap (λ (r : List ℕ). g (i + 6) ∷ r) (front s 0 (i + 7) (i + 8) (omega arith) (omega arith))))))))

-- the first of eight bytes that is no name byte, as code finds it
pub stops_by : (s : List ℕ) (i : ℕ) → i + 8 ≤ length s → (a b c d e f g h : ℕ) → Weighed (get_or s i 0) 2 a → Weighed (get_or s (i + 1) 0) 3 b → Weighed (get_or s (i + 2) 0) 5 c
    → Weighed (get_or s (i + 3) 0) 9 d → Weighed (get_or s (i + 4) 0) 17 e → Weighed (get_or s (i + 5) 0) 33 f → Weighed (get_or s (i + 6) 0) 65 g → Weighed (get_or s (i + 7) 0) 129 h
    → count_trailing_zeros 8 (mask a b c d e f g h) ≡ run name_byte (take 8 (drop i s))
unfolding run
stops_by s i l a b c d e f g h wa wb wc wd we wf wg wh =
    let n : ℕ → Bool = λ k. name_byte (get_or s k 0) in
    let same : mask a b c d e f g h ≡ mask_of (n i) (n (i + 1)) (n (i + 2)) (n (i + 3)) (n (i + 4)) (n (i + 5)) (n (i + 6)) (n (i + 7)) =
    rw (wa.is, wb.is, wc.is, wd.is, we.is, wf.is, wg.is, wh.is) in
    ap (count_trailing_zeros 8) same ∙ mask_first (n i) (n (i + 1)) (n (i + 2)) (n (i + 3)) (n (i + 4)) (n (i + 5)) (n (i + 6)) (n (i + 7))
    ∙ sym (ap (run name_byte) (eight s i l))

-- ---- a run by its first bytes

run_cut : (f : ℕ → Bool) (n : ℕ) (s : List ℕ) → run f (take n s) < n → run f s ≡ run f (take n s)
unfolding run
run_cut f zero s h = absurd (omega arith)
run_cut f (suc n) [] h = refl
run_cut f (suc n) (x ∷ s) h = cases (f x) (run_cut f n s) h
  where
    cases : (b : Bool) → (run f (take n s) < n → run f s ≡ run f (take n s)) → cond b (suc (run f (take n s))) 0 < suc n
        → cond b (suc (run f s)) 0 ≡ cond b (suc (run f (take n s))) 0
    cases true k h = ap suc (k (omega arith))
    cases false k h = refl

run_whole : (f : ℕ → Bool) (n : ℕ) (s : List ℕ) → run f (take n s) ≡ n → run f s ≡ n + run f (drop n s)
unfolding run
run_whole f zero s h = omega arith
run_whole f (suc n) [] h = absurd (omega arith)
run_whole f (suc n) (x ∷ s) h = cases (f x) (run_whole f n s) h
  where
    cases : (b : Bool) → (run f (take n s) ≡ n → run f s ≡ n + run f (drop n s)) → cond b (suc (run f (take n s))) 0 ≡ suc n
        → cond b (suc (run f s)) 0 ≡ suc n + run f (drop n s)
    cases true k h = omega (arith, k (omega arith))
    cases false k h = absurd (omega arith)

tz_less : (m : ℕ) → m < 256 → (m ≡ 0 → ⊥) → count_trailing_zeros 8 m < 8
unfolding count_trailing_zeros
tz_less m h z = go (below (λ k. eqb k 0 || ltb (count_trailing_zeros 8 k) 8) 256 tt m h)
  where
    go : T (eqb m 0 || ltb (count_trailing_zeros 8 m) 8) → count_trailing_zeros 8 m < 8
    go t = either (eqb m 0) (ltb (count_trailing_zeros 8 m) 8) t (λ u. absurd (z (eqb→eq m 0 u))) (λ u. ltb_yes u)
      where
        either : {X : Type 0} (a b : Bool) → T (a || b) → (T a → X) → (T b → X) → X
        either true b t f g = f t
        either false b t f g = g t

tz_zero : (m : ℕ) → m ≡ 0 → count_trailing_zeros 8 m ≡ 8
unfolding count_trailing_zeros
tz_zero m e = rw e

module _ (line : List ℕ) where
  pub name_eight : (m : ℕ) → m < 256 → (m ≡ 0 → ⊥) → count_trailing_zeros 8 m ≡ run name_byte (take 8 (drop 0 line)) → count_trailing_zeros 8 m ≡ name_len line
  unfolding name_len
  name_eight m h z e = e ∙ sym (run_cut name_byte 8 line (omega (arith, e, tz_less m h z)))

  pub name_sixteen : (m k : ℕ) → m ≡ 0 → count_trailing_zeros 8 m ≡ run name_byte (take 8 (drop 0 line)) → k < 256 → (k ≡ 0 → ⊥) → count_trailing_zeros 8 k ≡ run name_byte (take 8 (drop 8 line))
      → 8 + count_trailing_zeros 8 k ≡ name_len line
  unfolding name_len
  name_sixteen m k z e h y f =
      let first : run name_byte line ≡ 8 + run name_byte (drop 8 line) = run_whole name_byte 8 line (sym e ∙ tz_zero m z) in
      let second : run name_byte (drop 8 line) ≡ run name_byte (take 8 (drop 8 line)) = run_cut name_byte 8 (drop 8 line) (omega (arith, f, tz_less k h y)) in
      omega (arith, first, second, f)
