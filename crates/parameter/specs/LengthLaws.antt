-- How many bytes of a tail its parameters take.
use Rattle.std.specs.Prelude.{◌≡◌, refl, List, [], ◌∷◌, map, ℕ, zero, suc, pred, ◌+◌, ◌≤◌, length, drop}
use Rattle.std.proofs.Common.{add-one, arith, length-take}
use Rattle.lists.specs.ListsLaws.{by_test, yes_true, no_false}
use Rattle.lists.specs.Run.{run}
use Rattle.lists.specs.RunLaws.{run_le}
use Rattle.lists.specs.CutBy.{cut_by, cut_after}
use Rattle.parameter.specs.Parameter.{not_space, spaced_len, params, is_alt, alts, alt, alt_place}

-- how many bytes parameters take, each with its space
abbrev size : List (List ℕ) → ℕ
size [] = 0
size (p ∷ ps) = suc (length p) + size ps

params_size : (k : ℕ) (t : List ℕ) → k ≤ length t → k + size (map (drop 1) (cut_after spaced_len k t)) ≤ length t
unfolding cut_after
params_size k [] h = omega arith
params_size (suc k) (b ∷ t) h = omega (arith, params_size k t (omega arith))
params_size zero (b ∷ t) h =
    let n = run not_space t in
    let m : pred (n + 1) ≡ n = rw add-one in
    rw m (omega (arith, params_size n t (run_le not_space t), length-take n t))

alts_size : (ps : List (List ℕ)) (p : List ℕ) (more : List (List ℕ)) → alts ps ≡ p ∷ more → alt_place ps + suc (length p) ≤ size ps
unfolding alts alt_place
alts_size [] p more e = absurd (let z : ◌≡◌ {A = ℕ} 0 1 = cc in omega arith)
alts_size (q ∷ ps) p more e =
    by_test (is_alt q)
    (λ t. let h : q ∷ alts ps ≡ p ∷ more = rw (yes_true (is_alt q) t) at e in
    let same : q ≡ p = cc in
    rw (yes_true (is_alt q) t, same) (omega arith))
    (λ t. let h : alts ps ≡ p ∷ more = rw (no_false (is_alt q) t) at e in
    rw (no_false (is_alt q) t) (omega (arith, alts_size ps p more h)))

-- the ALT-ADDRESS, with the space before it, stands in the tail
pub alt_inside : (t p : List ℕ) (more : List (List ℕ)) → alts (params t) ≡ p ∷ more → alt_place (params t) + suc (length p) ≤ length t
unfolding params cut_by
alt_inside t p more e = omega (arith, alts_size (map (drop 1) (cut_after spaced_len 0 t)) p more e, params_size 0 t (omega arith))

pub alt_le : (t : List ℕ) → length (alt (params t)) ≤ length t
unfolding alt
alt_le t = go (alts (params t)) refl
  where
    go : (found : List (List ℕ)) → alts (params t) ≡ found → length (alt (params t)) ≤ length t
    go [] e = rw e (omega arith)
    go (p ∷ more) e = rw e (omega (arith, alt_inside t p more e))
