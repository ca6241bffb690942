-- Laws of runs, as a loop counts them one by one or by blocks.
use Rattle.std.proofs.Common.{not-suc-le-zero, le_of_suc-le-suc, ap, ◌∙◌, add-one, length-drop, take-append-drop, drop_of_length-le, drop-drop, take-suc, get_or-drop, length-take-le}
use Rattle.std.specs.Prelude.{◌≡◌, refl, Bool, true, false, ◌&&◌, length, take, drop, get_or}
use Rattle.std.proofs.Math.Bool.{and-true}
use mathlib.Core.List.{List, [], ◌∷◌, ◌++◌}
use Prim.Native.Nat.{ℕ, suc, ◌+◌, ◌≤◌, ◌<◌}
use native.Mathlib.Omega.{arith}
use Rattle.std.proofs.Math.Dec.{T}
use Rattle.std.proofs.Math.Seq.{drop-cons}
use Rattle.std.proofs.Math.Facts.{and_yes, yes_and}
use Rattle.lists.specs.Lists.{all}
use Rattle.lists.specs.ListsLaws.{cond_has, yes_true, true_yes, all_snoc, no_false}
use Rattle.lists.specs.Run.{run}

module _ (f : ℕ → Bool) where
  pub run_le : (xs : List ℕ) → run f xs ≤ length xs
  unfolding run
  run_le [] = omega arith
  run_le (x ∷ xs) = let k = run_le xs in cond_has (λ n. n ≤ suc (length xs)) (f x) (suc (run f xs)) 0 (λ t. omega arith) (λ t. omega arith)

  -- every byte of a run passes
  pub run_all : (xs : List ℕ) → T (all f (take (run f xs) xs))
  unfolding run
  run_all [] = tt
  run_all (x ∷ xs) =
      let k = run_all xs in
      cond_has (λ n. T (all f (take n (x ∷ xs)))) (f x) (suc (run f xs)) 0 (λ t. yes_and (f x) (all f (take (run f xs) xs)) t k) (λ t. tt)

  -- the byte after a run does not pass
  pub run_after : (xs : List ℕ) → run f xs < length xs → f (get_or xs (run f xs) 0) ≡ false
  unfolding run
  run_after [] = λ h. absurd (not-suc-le-zero h)
  run_after (x ∷ xs) =
      let k = run_after xs in
      cond_has (λ n. n < suc (length xs) → f (get_or (x ∷ xs) n 0) ≡ false) (f x) (suc (run f xs)) 0 (λ t h. k (le_of_suc-le-suc h)) (λ t h. no_false (f x) t)

  -- bytes that pass are passed over
  pub run_past : (a b : List ℕ) → T (all f a) → run f (a ++ b) ≡ length a + run f b
  unfolding run
  run_past [] b h = omega arith
  run_past (x ∷ a) b h =
      let both = and_yes (f x) (all f a) h in
      rw (yes_true (f x) both.0, run_past a b both.1) (omega arith)

  module _ (s : List ℕ) (i : ℕ) where
    pub run_block : (n : ℕ) → i + n ≤ length s → all f (take n (drop i s)) ≡ true → i + run f (drop i s) ≡ i + n + run f (drop (i + n) s)
    run_block n h e =
        let whole : take n (drop i s) ++ drop (i + n) s ≡ drop i s = rw (← drop-drop n i s) (take-append-drop n (drop i s)) in
        let size : length (take n (drop i s)) ≡ n = length-take-le n (drop i s) (rw length-drop (omega arith)) in
        let past : run f (drop i s) ≡ n + run f (drop (i + n) s) =
        rw (whole, size) at (run_past (take n (drop i s)) (drop (i + n) s) (true_yes (all f (take n (drop i s))) e)) in
        omega arith

    pub run_step : i < length s → f (get_or s i 0) ≡ true → i + run f (drop i s) ≡ i + 1 + run f (drop (i + 1) s)
    unfolding run
    run_step h e = rw (add-one, drop-cons s i 0 h, e) (omega arith)

    pub run_stop : i < length s → f (get_or s i 0) ≡ false → i + run f (drop i s) ≡ i
    unfolding run
    run_stop h e = rw (drop-cons s i 0 h, e) (omega arith)

    pub run_end : length s ≤ i → i + run f (drop i s) ≡ i
    unfolding run
    run_end h = rw (drop_of_length-le s {i = i} h) (omega arith)

    -- a test of n bytes, and of one more
    pub all_next : (n : ℕ) → i + n < length s → all f (take (n + 1) (drop i s)) ≡ all f (take n (drop i s)) && f (get_or s (i + n) 0)
    all_next n h = rw (add-one, take-suc (drop i s) n 0 (rw length-drop (omega arith)), get_or-drop i s n 0) (all_snoc f (take n (drop i s)) (get_or s (i + n) 0))

-- what a loop that tests n bytes from i has found after some of them
pub record Tested (f : ℕ → Bool) (s : List ℕ) (i n : ℕ) (ok : Bool) : Type 0 where
  pub is : ok ≡ all f (take n (drop i s))

module _ {f : ℕ → Bool} {s : List ℕ} {i : ℕ} where
  pub tested_none : Tested f s i 0 true
  tested_none = record { is = refl }

  pub tested_more : {n : ℕ} {ok : Bool} → i + n < length s → Tested f s i n ok → Tested f s i (n + 1) (ok && f (get_or s (i + n) 0))
  tested_more {n} h t = record { is = rw (all_next f s i n h) (ap (λ (o : Bool). o && f (get_or s (i + n) 0)) t.is) }

  pub tested_all : {n : ℕ} {ok : Bool} (whole : ℕ) → n ≡ whole → Tested f s i n ok → ok ≡ all f (take whole (drop i s))
  tested_all whole e t = rw e at t.is

-- a test of one byte, and of two
module _ (f : ℕ → Bool) (s : List ℕ) (i : ℕ) where
  pub all_one : i < length s → all f (take 1 (drop i s)) ≡ f (get_or s i 0)
  all_one h = rw (drop-cons s i 0 h) (and-true (f (get_or s i 0)))

  pub all_two : i + 1 < length s → all f (take 2 (drop i s)) ≡ f (get_or s i 0) && f (get_or s (i + 1) 0)
  all_two h = all_next f s i 1 h ∙ rw (all_one (omega arith))
