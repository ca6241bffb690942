-- Texts compared without regard to letter case.
use Rattle.std.specs.Prelude.{Bool, true, false, cond, ◌&&◌, List, [], ◌∷◌, ℕ, ◌+◌, leb, eqb}
use Prim.Native.Char.{code}
use Prim.Native.String.{String, [] as nil, ◌∷◌ as cons}

-- the bytes of an ASCII text
unfoldable pub bytes : String → List ℕ
bytes nil = []
bytes (cons c s) = code c ∷ bytes s

-- a capital letter's small one; any other byte itself
unfoldable pub lower : ℕ → ℕ
lower b = cond (leb 65 b && leb b 90) (b + 32) b

-- the same text but for the case of letters
unfoldable pub same_any_case : List ℕ → List ℕ → Bool
same_any_case [] [] = true
same_any_case [] (y ∷ ys) = false
same_any_case (x ∷ xs) [] = false
same_any_case (x ∷ xs) (y ∷ ys) = eqb (lower x) (lower y) && same_any_case xs ys
