-- Theorems on Scanner.antt of specs/.
use Rattle.std.specs.Prelude.{List, [], ◌∷◌, ℕ}
use Rattle.line_stop.specs.Scanner.{Scanner}

abbrev pub after : {S : Type 0} → Scanner S → S → List ℕ → S
after a s [] = s
after a s (b ∷ l) = after a (a.step s b) l
