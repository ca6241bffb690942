-- Laws of lists cut into parts.
use Rattle.std.specs.Prelude.{◌≡◌, Bool, length, drop, T}
use Rattle.std.proofs.Math.Path.{refl}
use Rattle.std.proofs.Common.{ap, ◌∙◌, not-suc-le-zero, length-drop, take-append-drop, drop-drop}
use mathlib.Core.List.{List, [], ◌∷◌}
use Prim.Native.Nat.{ℕ, zero, suc, pred, ◌+◌, ◌-◌, ◌≤◌, ◌<◌}
use native.Mathlib.Omega.{arith}
use Rattle.std.proofs.Math.ListN.{take}
use Rattle.std.proofs.Math.Facts.{yes_and}
use Rattle.lists.specs.Lists.{all, joined, nonempty}
use Rattle.lists.specs.CutBy.{cut_after, cut_by}

module _ (size : List ℕ → ℕ) where
  pub cut_nil : cut_by size [] ≡ []
  unfolding cut_by cut_after
  cut_nil = refl

  cut_skip : (k : ℕ) (s : List ℕ) → cut_after size k s ≡ cut_by size (drop k s)
  unfolding cut_by cut_after
  cut_skip zero s = refl
  cut_skip (suc k) [] = refl
  cut_skip (suc k) (b ∷ rest) = cut_skip k rest

  cut_cons : (b : ℕ) (rest : List ℕ) (n : ℕ) → n ≡ size (b ∷ rest) → 0 < n → cut_by size (b ∷ rest) ≡ take n (b ∷ rest) ∷ cut_by size (drop n (b ∷ rest))
  unfolding cut_by cut_after
  cut_cons b rest zero e h = absurd (not-suc-le-zero h)
  cut_cons b rest (suc n) e h = rw (← e) (ap (λ (parts : List (List ℕ)). take (suc n) (b ∷ rest) ∷ parts) (cut_skip n rest))

  -- the first part, and the others
  pub cut_front : (s : List ℕ) → 0 < length s → 0 < size s → cut_by size s ≡ take (size s) s ∷ cut_by size (drop (size s) s)
  cut_front [] k some = absurd (not-suc-le-zero k)
  cut_front (b ∷ rest) k some = cut_cons b rest (size (b ∷ rest)) refl some

  -- the same of what is left from a place on, where code knows the place after the part as `to`
  pub cut_next : (s : List ℕ) (at to : ℕ) → at < length s → to ≡ at + size (drop at s) → at < to
      → cut_by size (drop at s) ≡ take (to - at) (drop at s) ∷ cut_by size (drop to s)
  cut_next s at to k e some =
      let n : size (drop at s) ≡ to - at = omega arith in
      let there : at + (to - at) ≡ to = omega arith in
      let front = cut_front (drop at s) (rw length-drop (omega arith)) (omega arith) in
      front ∙ rw (n, drop-drop, there)

  after_joined : (k : ℕ) (s : List ℕ) → joined (cut_after size k s) ≡ drop k s
  unfolding cut_after
  after_joined zero [] = refl
  after_joined (suc k) [] = refl
  after_joined (suc k) (b ∷ rest) = after_joined k rest
  after_joined zero (b ∷ rest) = let more = pred (size (b ∷ rest)) in rw (after_joined more rest) (take-append-drop (suc more) (b ∷ rest))

  -- nothing is lost or invented between parts
  pub cut_joined : (s : List ℕ) → joined (cut_by size s) ≡ s
  unfolding cut_by
  cut_joined s = after_joined 0 s

  after_few : (k : ℕ) (s : List ℕ) → length (cut_after size k s) ≤ length s
  unfolding cut_after
  after_few k [] = omega arith
  after_few (suc k) (b ∷ rest) = omega (arith, after_few k rest)
  after_few zero (b ∷ rest) = omega (arith, after_few (pred (size (b ∷ rest))) rest)

  -- no part is empty
  pub cut_few : (s : List ℕ) → length (cut_by size s) ≤ length s
  unfolding cut_by
  cut_few s = after_few 0 s

  -- what holds of the front of every list holds of every part
  after_all : (f : List ℕ → Bool) → ((s : List ℕ) → 0 < length s → T (f (take (suc (pred (size s))) s))) → (k : ℕ) (s : List ℕ) → T (all f (cut_after size k s))
  unfolding cut_after
  after_all f fronts k [] = tt
  after_all f fronts (suc k) (b ∷ rest) = after_all f fronts k rest
  after_all f fronts zero (b ∷ rest) =
      let more = pred (size (b ∷ rest)) in
      yes_and (f (take (suc more) (b ∷ rest))) (all f (cut_after size more rest)) (fronts (b ∷ rest) (omega arith)) (after_all f fronts more rest)

  pub cut_all : (f : List ℕ → Bool) → ((s : List ℕ) → 0 < length s → T (f (take (suc (pred (size s))) s))) → (s : List ℕ) → T (all f (cut_by size s))
  unfolding cut_by
  cut_all f fronts s = after_all f fronts 0 s

  front_some : (s : List ℕ) → 0 < length s → T (nonempty (take (suc (pred (size s))) s))
  front_some [] k = absurd (not-suc-le-zero k)
  front_some (b ∷ rest) k = tt

  pub cut_some : (s : List ℕ) → T (all nonempty (cut_by size s))
  cut_some s = cut_all nonempty front_some s
