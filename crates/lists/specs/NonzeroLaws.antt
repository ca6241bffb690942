-- A length as the option of one, as code makes it and finds it.
use Rattle.std.specs.Prelude.{◌≡◌, ℕ, ◌<◌, Option, Some, None}
use Rattle.std.proofs.Common.{sym, ◌∙◌, arith}
use Rattle.lists.specs.Lists.{nonzero}
use Rattle.lists.specs.ListsLaws.{nonzero_none, nonzero_some, none_nonzero, some_nonzero}

pub none_of : {n : ℕ} → n ≡ 0 → None ≡ nonzero n
none_of {n} e = sym (nonzero_none n e)

pub some_of : {n : ℕ} (m : ℕ) → n ≡ m → (m ≡ 0 → ⊥) → Some m ≡ nonzero n
some_of m e h = rw e (sym (nonzero_some m (omega arith)))

-- what is found is a length n
module _ {o : Option ℕ} (n : ℕ) (r : o ≡ nonzero n) where
  pub not_found : o ≡ None → n ≡ 0
  not_found e = none_nonzero n (sym r ∙ e)

  pub found_is : {m : ℕ} → o ≡ Some m → m ≡ n
  found_is {m} e = (some_nonzero n m (sym r ∙ e)).1

  pub found_some : {m : ℕ} → o ≡ Some m → 0 < m
  found_some {m} e = let has = some_nonzero n m (sym r ∙ e) in rw has.1 has.0
