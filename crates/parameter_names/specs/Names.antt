-- The names of parameters, and that none is shared.
use Rattle.std.specs.Prelude.{Bool, true, not, cond, ◌&&◌, List, [], ◌∷◌, ◌++◌, map, ℕ, ◌+◌, ltb, length}
use Rattle.lists.specs.Lists.{all, joined}
use Rattle.lists.specs.Run.{run}
use Rattle.letter_case.specs.LetterCase.{same_any_case}
use Rattle.mime_parameter.specs.Extended.{is_token_byte}

-- no name is "shared by two parameters (any case)"
unfoldable pub distinct : List (List ℕ) → Bool
distinct [] = true
distinct (name ∷ names) = all (λ other. not (same_any_case name other)) names && distinct names

-- names, each with a `=` (61), which stands in none
abbrev pub with_mark : List ℕ → List ℕ
with_mark name = name ++ (61 ∷ [])

unfoldable pub marked : List (List ℕ) → List ℕ
marked names = joined (map with_mark names)

-- the name at the front, with its `=`
unfoldable pub marked_len : List ℕ → ℕ
marked_len s = cond (ltb (run is_token_byte s) (length s)) (run is_token_byte s + 1) (run is_token_byte s)
