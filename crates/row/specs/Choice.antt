-- "Each word takes the encoding that holds more whole characters in its room, Q when equal.", as the sentence says it: by what each encoding
-- holds of the characters that are left. ChoiceLaws.antt proves that the words of our rows are those.
use Rattle.std.specs.Prelude.{Bool, cond, List, [], ◌∷◌, ◌++◌, ℕ, ltb, length}
use Rattle.lists.specs.Lists.{joined}
use Rattle.row.specs.declared.Encoding.{Encoding}
use Rattle.row.specs.declared.Encoding.TheVariants.{Q, B}
use Rattle.row.specs.Row.{holds}

-- the longest front of some characters that passes a test, and what is left; `run` is in front already
unfoldable pub front : (List (List ℕ) → Bool) → List (List ℕ) → List (List ℕ) → List (List ℕ) × List (List ℕ)
front test run [] = (run, [])
front test run (c ∷ cs) = let more = front test (run ++ (c ∷ [])) cs in cond (test (run ++ (c ∷ []))) more (run, c ∷ cs)

-- the whole characters that a word in this encoding holds in this room, and those that are left
abbrev pub held : ℕ → Encoding → List (List ℕ) → List (List ℕ) × List (List ℕ)
held room encoding cs = front (λ run. holds room (joined run) encoding) [] cs

-- the encoding that holds more of these characters, Q when equal
abbrev pub holds_more : ℕ → List (List ℕ) → Encoding
holds_more room cs = cond (ltb (length (held room Q cs).0) (length (held room B cs).0)) B Q

-- the characters of the word that starts with these, and those that are left
abbrev pub taken : ℕ → List (List ℕ) → List (List ℕ) × List (List ℕ)
taken room cs = held room (holds_more room cs) cs
