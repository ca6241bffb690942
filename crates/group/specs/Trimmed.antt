-- A text without the blanks at its ends: what becomes of "everything between its colon and semicolon".
use Rattle.std.specs.Prelude.{cond, List, [], ◌∷◌, ℕ, suc, take, drop}
use Rattle.lists.specs.Lists.{all}
use Rattle.lists.specs.Run.{run}
use Rattle.line.specs.Line.{blank}

-- how many bytes there are up to the last that is no blank, and with it
unfoldable pub content_len : List ℕ → ℕ
content_len [] = 0
content_len (b ∷ t) = cond (all blank (b ∷ t)) 0 (suc (content_len t))

-- "spaces and TABs at both ends dropped"
unfoldable pub trimmed : List ℕ → List ℕ
trimmed t = let rest = drop (run blank t) t in take (content_len rest) rest
