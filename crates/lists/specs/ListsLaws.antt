-- Laws of lists of lists and of tests of every element, and cases on a test.
use Rattle.std.specs.Prelude.{◌≡◌, refl, Bool, true, false, not, cond, ◌&&◌, ℕ, zero, suc, ◌<◌, T, length, get_or, Some, None}
use Rattle.std.proofs.Common.{sym, not-suc-le-zero, le_of_suc-le-suc, arith}
use Rattle.std.proofs.Math.Bool.{and-true, and_assoc}
use mathlib.Core.List.{List, [], ◌∷◌, ◌++◌, append_assoc, map, Memᴰ}
use Rattle.std.proofs.Math.Facts.{and_yes, yes_and}
use Rattle.lists.specs.Lists.{all, joined, nonempty, nonzero}

-- by cases on a test
pub by_test {ℓ} : {X : Type ℓ} (b : Bool) → (T b → X) → (T (not b) → X) → X
by_test true f g = f tt
by_test false f g = g tt

pub cond_yes {ℓ} : {X : Type ℓ} (b : Bool) (x y : X) → T b → cond b x y ≡ x
cond_yes true x y t = refl
cond_yes false x y t = absurd t

pub cond_no {ℓ} : {X : Type ℓ} (b : Bool) (x y : X) → T (not b) → cond b x y ≡ y
cond_no true x y t = absurd t
cond_no false x y t = refl

pub yes_true : (b : Bool) → T b → b ≡ true
yes_true true t = refl
yes_true false t = absurd t

pub true_yes : (b : Bool) → b ≡ true → T b
true_yes b e = rw e tt

pub no_false : (b : Bool) → T (not b) → b ≡ false
no_false true t = absurd t
no_false false t = refl

-- what both arms have, given the test's answer
pub cond_has {ℓ} : {X : Type ℓ} (P : X → Type 0) (b : Bool) (x y : X) → (T b → P x) → (T (not b) → P y) → P (cond b x y)
cond_has P true x y f g = f tt
cond_has P false x y f g = g tt

module _ {A : Type 0} where
  pub all_append : (f : A → Bool) (a b : List A) → T (all f a) → T (all f b) → T (all f (a ++ b))
  all_append f [] b h k = k
  all_append f (x ∷ a) b h k =
      let both = and_yes (f x) (all f a) h in
      yes_and (f x) (all f (a ++ b)) both.0 (all_append f a b both.1 k)

  pub all_left : (f : A → Bool) (a b : List A) → T (all f (a ++ b)) → T (all f a)
  all_left f [] b h = tt
  all_left f (x ∷ a) b h =
      let both = and_yes (f x) (all f (a ++ b)) h in
      yes_and (f x) (all f a) both.0 (all_left f a b both.1)

  pub all_right : (f : A → Bool) (a b : List A) → T (all f (a ++ b)) → T (all f b)
  all_right f [] b h = h
  all_right f (x ∷ a) b h = all_right f a b (and_yes (f x) (all f (a ++ b)) h).1

  -- elements that pass are passed over
  pub all_past : (f : A → Bool) (a b : List A) → T (all f a) → all f (a ++ b) ≡ all f b
  all_past f [] b h = refl
  all_past f (x ∷ a) b h = let both = and_yes (f x) (all f a) h in rw (yes_true (f x) both.0) (all_past f a b both.1)

  pub all_snoc : (f : A → Bool) (a : List A) (x : A) → all f (a ++ (x ∷ [])) ≡ all f a && f x
  all_snoc f [] x = and-true (f x)
  all_snoc f (y ∷ a) x = rw (all_snoc f a x) (sym (and_assoc (f y) (all f a) (f x)))

  -- a test that implies another
  pub all_weaken : (f g : A → Bool) → ((x : A) → T (f x) → T (g x)) → (xs : List A) → T (all f xs) → T (all g xs)
  all_weaken f g w [] h = tt
  all_weaken f g w (x ∷ xs) h =
      let both = and_yes (f x) (all f xs) h in
      yes_and (g x) (all g xs) (w x both.0) (all_weaken f g w xs both.1)

  pub joined_append : (a b : List (List A)) → joined (a ++ b) ≡ joined a ++ joined b
  joined_append [] b = refl
  joined_append (g ∷ a) b = rw (joined_append a b) (sym (append_assoc g (joined a) (joined b)))

  pub joined_map : (gs : List (List (List A))) → joined (map joined gs) ≡ joined (joined gs)
  joined_map [] = refl
  joined_map (g ∷ gs) = rw (joined_map gs) (sym (joined_append g (joined gs)))

  pub all_joined : (f : A → Bool) (gs : List (List A)) → T (all f (joined gs)) → T (all (all f) gs)
  all_joined f [] h = tt
  all_joined f (g ∷ gs) h = yes_and (all f g) (all (all f) gs) (all_left f g (joined gs) h) (all_joined f gs (all_right f g (joined gs) h))

  pub joined_all : (f : A → Bool) (gs : List (List A)) → T (all (all f) gs) → T (all f (joined gs))
  joined_all f [] h = tt
  joined_all f (g ∷ gs) h =
      let both = and_yes (all f g) (all (all f) gs) h in
      all_append f g (joined gs) both.0 (joined_all f gs both.1)

  -- a test of every element, at one of them
  pub all_at_lem : (f : A → Bool) (xs : List A) (i : ℕ) (d : A) → T (all f xs) → i < length xs → T (f (get_or xs i d))
  all_at_lem f [] i d h k = absurd (not-suc-le-zero k)
  all_at_lem f (x ∷ xs) zero d h k = (and_yes (f x) (all f xs) h).0
  all_at_lem f (x ∷ xs) (suc i) d h k = all_at_lem f xs i d (and_yes (f x) (all f xs) h).1 (le_of_suc-le-suc k)

-- what holds of all holds of a member
pub all_mem : {A : Type 0} (f : A → Bool) {x : A} {xs : List A} → T (all f xs) → Memᴰ x xs → T (f x)
all_mem f h (Memᴰ.head {x} {xs} e) = rw e (and_yes (f x) (all f xs) h).0
all_mem f h (Memᴰ.tail {x} {xs} m) = all_mem f (and_yes (f x) (all f xs) h).1 m

pub some_nonempty : {A : Type 0} (xs : List A) → 0 < length xs → T (nonempty xs)
some_nonempty [] h = absurd (not-suc-le-zero h)
some_nonempty (x ∷ xs) h = tt

-- a length as the option of one, from the length and back
pub nonzero_none : (n : ℕ) → n ≡ 0 → nonzero n ≡ None
nonzero_none n e = rw e

pub nonzero_some : (n : ℕ) → 0 < n → nonzero n ≡ Some n
nonzero_some zero h = absurd (not-suc-le-zero h)
nonzero_some (suc n) h = refl

pub none_nonzero : (n : ℕ) → nonzero n ≡ None → n ≡ 0
none_nonzero zero e = refl
none_nonzero (suc n) e = grind (arith, e)

pub some_nonzero : (n m : ℕ) → nonzero n ≡ Some m → (0 < n) × (m ≡ n)
some_nonzero zero m e = grind (arith, e)
some_nonzero (suc n) m e = (omega arith, grind (arith, e))
