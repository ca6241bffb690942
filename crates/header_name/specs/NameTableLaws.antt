-- Laws of the table: it gives the kind of each name.
use Rattle.std.specs.Prelude.{◌≡◌, refl, true, false, cond, List, [], ◌∷◌, ◌++◌, map, ℕ, ◌≤◌, length, drop}
use Rattle.std.proofs.Common.{sym, ◌∙◌, drop_of_length-le}
use Prim.Native.String.{String}
use Rattle.lists.specs.ListsLaws.{by_test, yes_true, no_false}
use Rattle.header_name.specs.declared.Kind.{Kind}
use Rattle.header_name.specs.declared.Kind.TheVariants.{OtherCommented, Other}
use Rattle.header_name.specs.Names.{groups, among, other_commented, other_kind, kind_among, kind_of}
use Rattle.letter_case.specs.LetterCase.{bytes, same_any_case}
use Rattle.header_name.specs.NameTable.{has_name, entries_of, entries, kind_in}

kind_part : (k : Kind) (group : List String) (es : List (List ℕ × Kind)) (name : List ℕ)
    → kind_in (map (λ n. (bytes n, k)) group ++ es) name ≡ cond (among group name) k (kind_in es name)
unfolding among
kind_part k [] es name = refl
kind_part k (n ∷ group) es name =
    by_test (same_any_case (bytes n) name) (λ t. rw (yes_true (same_any_case (bytes n) name) t)) (λ t. rw (no_false (same_any_case (bytes n) name) t) (kind_part k group es name))

kind_groups : (gs : List (Kind × List String)) (name : List ℕ) → kind_among gs name ≡ kind_in (entries_of gs) name
unfolding kind_among entries_of
kind_groups [] name = refl
kind_groups ((kind, names) ∷ more) name = sym (kind_part kind names (entries_of more) name ∙ rw (kind_groups more name))

pub kind_table : (name : List ℕ) → kind_of name ≡ kind_in entries name
unfolding kind_of entries
kind_table name = kind_groups groups name

-- names by their bytes
pub among_bytes : (names : List String) (name : List ℕ) → among names name ≡ has_name (map bytes names) name
unfolding among
among_bytes [] name = refl
among_bytes (n ∷ names) name = rw (among_bytes names name)

-- ---- the search

count : length entries ≡ 32
unfolding entries entries_of groups
count = refl

-- what is left to search from entry k on
pub record Sought (name : List ℕ) (k : ℕ) : Type 0 where
  pub left : kind_of name ≡ kind_in (drop k entries) name

pub sought_start : (name : List ℕ) → Sought name 0
sought_start name = record { left = kind_table name }

pub sought_end : {name : List ℕ} {k : ℕ} → 32 ≤ k → Sought name k → other_kind name ≡ kind_of name
sought_end {name} {k} h s = sym (s.left ∙ rw (drop_of_length-le entries {i = k} (rw count h)))

-- ---- names that are not in the table

module _ (name : List ℕ) where
  pub content_language : same_any_case (bytes "Content-Language") name ≡ true → OtherCommented ≡ other_kind name
  unfolding other_kind other_commented among
  content_language e = rw e

  pub accept_language : same_any_case (bytes "Content-Language") name ≡ false → same_any_case (bytes "Accept-Language") name ≡ true → OtherCommented ≡ other_kind name
  unfolding other_kind other_commented among
  accept_language e f = rw (e, f)

  module _ (e : same_any_case (bytes "Content-Language") name ≡ false) (f : same_any_case (bytes "Accept-Language") name ≡ false) where
    pub auto_submitted : same_any_case (bytes "Auto-Submitted") name ≡ true → OtherCommented ≡ other_kind name
    unfolding other_kind other_commented among
    auto_submitted g = rw (e, f, g)

    pub none_of_these : same_any_case (bytes "Auto-Submitted") name ≡ false → Other ≡ other_kind name
    unfolding other_kind other_commented among
    none_of_these g = rw (e, f, g)
