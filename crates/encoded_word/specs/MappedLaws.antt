-- Laws of the segments of parts, one after another: as code writes them, how long they can be, and that they are sound.
use Rattle.std.specs.Prelude.{◌≡◌, Bool, T, length}
use mathlib.Core.List.{List, [], ◌∷◌, ◌++◌, map}
use Prim.Native.Nat.{ℕ, ◌*◌, ◌≤◌, ◌<◌, zero-le}
use Rattle.std.proofs.Math.Nat.{mul-add}
use Rattle.std.proofs.Common.{arith}
use Rattle.std.proofs.Math.ListN.{length-append}
use Rattle.std.proofs.Math.Facts.{and_yes}
use Rattle.lists.specs.Lists.{all, joined, nonempty}
use Rattle.lists.specs.ListsLaws.{all_append}
use Rattle.encoded_word.specs.Segments.{Segment, rendered, sound}
use Rattle.encoded_word.specs.SegmentsLaws.{rendered_append}

some_length : (p : List ℕ) → T (nonempty p) → 0 < length p
some_length [] h = absurd h
some_length (b ∷ p) h = omega arith

module _ (f : List ℕ → List Segment) where
  pub mapped_next : {parts rest : List (List ℕ)} {part : List ℕ} → parts ≡ part ∷ rest
      → rendered (joined (map f parts)) ≡ rendered (f part) ++ rendered (joined (map f rest))
  mapped_next {parts} {rest} {part} e = rw e (rendered_append (f part) (joined (map f rest)))

  pub mapped_none : {parts : List (List ℕ)} → parts ≡ [] → rendered (joined (map f parts)) ≡ []
  unfolding rendered
  mapped_none e = rw e

  pub mapped_le : (k : ℕ) → ((p : List ℕ) → 0 < length p → length (rendered (f p)) ≤ k * length p) → (parts : List (List ℕ)) → T (all nonempty parts)
      → length (rendered (joined (map f parts))) ≤ k * length (joined parts)
  unfolding rendered
  mapped_le k each [] h = zero-le
  mapped_le k each (p ∷ parts) h =
      let both = and_yes (nonempty p) (all nonempty parts) h in
      let one = each p (some_length p both.0) in
      let more = mapped_le k each parts both.1 in
      rw (rendered_append (f p) (joined (map f parts)), length-append (rendered (f p)) (rendered (joined (map f parts))), length-append p (joined parts), mul-add k (length p) (length (joined parts)))
      (omega arith)

  pub mapped_sound : (test : List ℕ → Bool) → ((p : List ℕ) → T (test p) → T (all sound (f p))) → (parts : List (List ℕ)) → T (all test parts)
      → T (all sound (joined (map f parts)))
  mapped_sound test each [] h = tt
  mapped_sound test each (p ∷ parts) h =
      let both = and_yes (test p) (all test parts) h in
      all_append sound (f p) (joined (map f parts)) (each p both.0) (mapped_sound test each parts both.1)
