-- Lines, each up to its CRLF.
use Rattle.std.specs.Prelude.{Bool, not, cond, ◌&&◌, ◌||◌, List, [], ◌∷◌, ℕ, suc, eqb, get_or}
use Rattle.lists.specs.Run.{run}

-- CRLF stands at the front
unfoldable pub crlf : List ℕ → Bool
crlf h = eqb (get_or h 0 0) 13 && eqb (get_or h 1 0) 10

-- how many bytes stand before the first CRLF; all bytes where there is none
unfoldable pub line_len : List ℕ → ℕ
line_len [] = 0
line_len (b ∷ rest) = cond (crlf (b ∷ rest)) 0 (suc (line_len rest))

-- "space or TAB"
unfoldable pub blank : ℕ → Bool
blank b = eqb b 32 || eqb b 9

abbrev pub not_cr : ℕ → Bool
not_cr b = not (eqb b 13)

-- how many bytes stand before the first CR
abbrev pub cr_run : List ℕ → ℕ
cr_run s = run not_cr s
