-- Laws of lists taken part by part.
use Rattle.std.specs.Prelude.{◌≡◌, length, drop}
use Rattle.std.proofs.Math.Path.{refl}
use Rattle.std.proofs.Common.{ap, sym, ◌∙◌, not-suc-le-zero, length-drop, drop-drop}
use mathlib.Core.List.{List, [], ◌∷◌}
use Prim.Native.Nat.{ℕ, zero, suc, pred, ◌+◌, ◌≤◌, ◌<◌}
use native.Mathlib.Omega.{arith}
use Rattle.word_reader.specs.Each.{each_after, each}

module _ {A : Type 0} (size : List ℕ → ℕ) (f : List ℕ → A) where
  pub each_nil : each size f [] ≡ []
  unfolding each_after
  each_nil = refl

  skip : (k : ℕ) (s : List ℕ) → each_after size f k s ≡ each size f (drop k s)
  unfolding each_after
  skip zero s = refl
  skip (suc k) [] = refl
  skip (suc k) (b ∷ s) = skip k s

  front : (b : ℕ) (s : List ℕ) (n : ℕ) → n ≡ size (b ∷ s) → 0 < n → each size f (b ∷ s) ≡ f (b ∷ s) ∷ each size f (drop n (b ∷ s))
  unfolding each_after
  front b s zero e h = absurd (not-suc-le-zero h)
  front b s (suc n) e h = rw (← e) (ap (λ (l : List A). f (b ∷ s) ∷ l) (skip n s))

  pub each_front : (s : List ℕ) → 0 < length s → 0 < size s → each size f s ≡ f s ∷ each size f (drop (size s) s)
  each_front [] h k = absurd (not-suc-le-zero h)
  each_front (b ∷ s) h k = front b s (size (b ∷ s)) refl k

  -- the same of what is left from a place on, where code knows the place after the part as `to`
  pub each_next : (s : List ℕ) (at to : ℕ) → at < length s → to ≡ at + size (drop at s) → at < to → each size f (drop at s) ≡ f (drop at s) ∷ each size f (drop to s)
  each_next s at to h e k =
      each_front (drop at s) (rw length-drop (omega arith)) (omega arith) ∙ rw (drop-drop, e) refl

  -- no more parts than elements
  few : (k : ℕ) (s : List ℕ) → length (each_after size f k s) ≤ length s
  unfolding each_after
  few k [] = omega arith
  few (suc k) (b ∷ s) = omega (arith, few k s)
  few zero (b ∷ s) = omega (arith, few (pred (size (b ∷ s))) s)

  pub each_few : (s : List ℕ) → length (each size f s) ≤ length s
  each_few s = few 0 s
