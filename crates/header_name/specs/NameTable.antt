-- The names and kinds as a table of pairs, the way code holds them.
use Rattle.std.specs.Prelude.{Bool, false, cond, ◌||◌, List, [], ◌∷◌, ◌++◌, map, ℕ}
use Prim.Native.String.{String}
use Rattle.header_name.specs.declared.Kind.{Kind}
use Rattle.header_name.specs.Names.{groups, other_kind}
use Rattle.letter_case.specs.LetterCase.{bytes, same_any_case}

-- whether a name is one of these, by their bytes
abbrev pub has_name : List (List ℕ) → List ℕ → Bool
has_name [] name = false
has_name (n ∷ names) name = same_any_case n name || has_name names name

-- each name of a group with its kind
unfoldable pub entries_of : List (Kind × List String) → List (List ℕ × Kind)
entries_of [] = []
entries_of ((kind, names) ∷ more) = map (λ n. (bytes n, kind)) names ++ entries_of more

unfoldable pub entries : List (List ℕ × Kind)
entries = entries_of groups

-- the kind of the first entry with that name
abbrev pub kind_in : List (List ℕ × Kind) → List ℕ → Kind
kind_in [] name = other_kind name
kind_in (e ∷ es) name = cond (same_any_case e.0 name) e.1 (kind_in es name)
