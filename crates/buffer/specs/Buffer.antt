-- Writing into a lent buffer, clipped to its length: what a writer promises.
use Rattle.std.specs.Prelude.{◌≡◌, List, [], ◌∷◌, ◌++◌, ℕ, ◌+◌, min, length, take, drop}

-- text laid over the front of a buffer; what does not fit is left out, and what lies past the text stays
unfoldable pub overlay : List ℕ → List ℕ → List ℕ
overlay [] out = out
overlay (b ∷ text) [] = []
overlay (b ∷ text) (o ∷ out) = b ∷ overlay text out

-- text laid over a buffer from a place on
unfoldable pub overlay_at : ℕ → List ℕ → List ℕ → List ℕ
overlay_at at text out = take at out ++ overlay text (drop at out)

-- A writer's answer: the text's whole length, whether it fits or not; and the buffer afterwards.
pub record Wrote (text before after : List ℕ) (r : ℕ) : Type 0 where
  pub size : r ≡ length text
  pub bytes : after ≡ overlay text before

-- The same from a place on; the answer is the place after the text.
pub record Appended (text : List ℕ) (at : ℕ) (before after : List ℕ) (next : ℕ) : Type 0 where
  pub place : next ≡ at + length text
  pub bytes : after ≡ overlay_at at text before

-- the greatest usize
abbrev pub greatest : ℕ
greatest = 18446744073709551615

-- The same for every place: a place after the text that no usize holds is answered as the greatest.
pub record AppendedCapped (text : List ℕ) (at : ℕ) (before after : List ℕ) (next : ℕ) : Type 0 where
  pub place : next ≡ min (at + length text) greatest
  pub bytes : after ≡ overlay_at at text before

-- Where a loop that writes stands: from `at` on a text is written up to `next`, and with `rest` it makes up the whole.
pub record Reached (whole rest : List ℕ) (at : ℕ) (before after : List ℕ) (next : ℕ) : Type 0 where
  pub text : List ℕ
  pub wrote : Appended text at before after next
  pub joins : whole ≡ text ++ rest

-- The same for every place.
pub record ReachedCapped (whole rest : List ℕ) (at : ℕ) (before after : List ℕ) (next : ℕ) : Type 0 where
  pub text : List ℕ
  pub wrote : AppendedCapped text at before after next
  pub joins : whole ≡ text ++ rest
