-- Texts read front by front, with a state.
use Rattle.std.specs.Prelude.{Bool, List, [], ◌∷◌, ◌++◌, map, ℕ, zero, suc, pred}
use Rattle.lists.specs.Lists.{all, joined}

-- what stands at the front of a text: how long it is, whether it may stand there, what it becomes, and the state after it
pub record Front (S A : Type 0) : Type 0 where
  pub size : ℕ
  pub clear : Bool
  pub becomes : List A
  pub next : S

-- what is left of a text after k bytes of what stood before
unfoldable pub walk_after : {S A : Type 0} → (S → List ℕ → Front S A) → S → ℕ → List ℕ → List (Front S A)
walk_after front state k [] = []
walk_after front state (suc k) (b ∷ s) = walk_after front state k s
walk_after front state zero (b ∷ s) = let f = front state (b ∷ s) in f ∷ walk_after front f.next (pred f.size) s

unfoldable pub walk : {S A : Type 0} → (S → List ℕ → Front S A) → S → List ℕ → List (Front S A)
walk front state s = walk_after front state 0 s

abbrev pub clear_of : {S A : Type 0} → Front S A → Bool
clear_of f = f.clear

abbrev pub becomes_of : {S A : Type 0} → Front S A → List A
becomes_of f = f.becomes

-- whether every part of a text may stand where it does
unfoldable pub clear_all : {S A : Type 0} → (S → List ℕ → Front S A) → S → List ℕ → Bool
clear_all front state s = all clear_of (walk front state s)

-- what the parts of a text become, one after another
unfoldable pub becoming : {S A : Type 0} → (S → List ℕ → Front S A) → S → List ℕ → List A
becoming front state s = joined (map becomes_of (walk front state s))

-- the same as rules that make texts together with what becomes of them: WalkLaws.antt proves that these are the texts of which every part
-- is clear, where a rule makes exactly what stands at the front. A rule is told the state, the part, what follows it, what the part becomes
-- and the state after it.
pub data Value {S A : Type 0} (Rule : S → List ℕ → List ℕ → List A → S → Type 0) : S → List ℕ → List A → Type 0 where
  end : {state : S} → Value Rule state [] []
  next : {state after : S} {part more : List ℕ} {p q : List A} → Rule state part more p after → Value Rule after more q → Value Rule state (part ++ more) (p ++ q)
