-- A row of things cut into lines by filling each line as far as it goes.
use Rattle.std.specs.Prelude.{Bool, cond, List, [], ◌∷◌, ◌++◌, ℕ, suc}

module _ {A : Type 0} where
  -- Lines are counted from 0, and `fits k run` says whether line k can hold run. Line k holds `run` so far, and `cs` is to
  -- come: a thing goes on the line where the line then still fits, and starts the next line where not.
  unfoldable pub cut : (ℕ → List A → Bool) → ℕ → List A → List A → List (List A)
  cut fits k run [] = run ∷ []
  cut fits k run (c ∷ cs) =
      let more = cut fits k (run ++ (c ∷ [])) cs in
      let next = run ∷ cut fits (suc k) (c ∷ []) cs in
      cond (fits k (run ++ (c ∷ []))) more next
