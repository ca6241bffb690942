-- Demand 3 of a header speaks of each text of which it asks encoded words, and of each parameter by RFC 2231: a header that has nothing there
-- does not meet it.
use Rattle.std.specs.Prelude.{◌≡◌, List, [], ◌∷◌, ◌++◌, ℕ, ◌<◌, length}
use Rattle.std.proofs.Common.{ap, sym, ◌∙◌, not-suc-le-zero, arith, length-append}
use Rattle.rules.specs.declared.Rules.{Rules}
use Rattle.row.specs.Demand3.{Demand3}
use Rattle.row.proofs.CounterexampleLaws.{row_empty}
use Rattle.encoded_word.specs.Segments.{Segment, rendered}
use Rattle.encoded_word.specs.Segments.Segment.{words, parameter}
use Rattle.mime_parameter.specs.Pieces.{laid}
use Rattle.mime_parameter.specs.Parameter2231.{Part, Parameter}
use Rattle.demands.specs.Downgraded.{Downgraded}
use Rattle.demands.specs.Demands.{DemandThree}

some_pieces : {name : List ℕ} {pieces : List (List ℕ)} {parts : List Part} → Parameter name pieces parts → 0 < length pieces
some_pieces (Parameter.alone e r) = omega arith
some_pieces (Parameter.numbered n) = omega arith

laid_some : (piece : List ℕ) (pieces : List (List ℕ)) → 0 < length (laid [] (piece ∷ pieces))
unfolding laid
laid_some piece pieces = omega arith

module _ (rules : Rules) (e h e' h' : List ℕ) (d : DemandThree (Downgraded rules e h e') h') where
  pub no_words : (before : List Segment) (b : ℕ) (text : List ℕ) (after : List Segment) → Downgraded rules e h e' (before ++ (words (b ∷ text) ∷ after))
      → h' ≡ rendered before ++ rendered after → ⊥
  no_words before b text after g p =
      let there = d.alone before (b ∷ text) after g in
      none there.0 (sym there.1 ∙ p) there.2
    where
      none : (row : List ℕ) → rendered before ++ (row ++ rendered after) ≡ rendered before ++ rendered after → Demand3 (b ∷ text) row → ⊥
      none [] q t = row_empty b text t
      none (x ∷ row) q t =
          omega (
            arith,
            ap length q,
            length-append (rendered before) ((x ∷ row) ++ rendered after),
            length-append (x ∷ row) (rendered after),
            length-append (rendered before) (rendered after),
          )

  pub no_pieces : (before : List Segment) (name text : List ℕ) (after : List Segment) → Downgraded rules e h e' (before ++ (parameter name text ∷ after))
      → h' ≡ rendered before ++ rendered after → ⊥
  no_pieces before name text after g p =
      let there = d.converted before name text after g in
      none there.0 (sym there.1 ∙ p) there.2.ours.reads
    where
      none : {parts : List Part} (pieces : List (List ℕ)) → rendered before ++ (laid [] pieces ++ rendered after) ≡ rendered before ++ rendered after → Parameter name pieces parts → ⊥
      none [] q t = not-suc-le-zero (some_pieces t)
      none (piece ∷ pieces) q t =
          omega (
            arith,
            ap length q,
            length-append (rendered before) (laid [] (piece ∷ pieces) ++ rendered after),
            length-append (laid [] (piece ∷ pieces)) (rendered after),
            length-append (rendered before) (rendered after),
            laid_some piece pieces,
          )
