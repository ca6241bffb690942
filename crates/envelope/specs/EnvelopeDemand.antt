-- An envelope, line by line, by the grammar of its lines: what is written for it. EnvelopeDemandLaws.antt proves that this is what is checked and
-- written.
use Rattle.std.specs.Prelude.{List, [], ◌∷◌, ◌++◌, ℕ, suc, ◌≤◌, T, eqb}
use Rattle.std.proofs.Math.Option.{Option}
use Rattle.lists.specs.Byte.{is_ascii}
use Rattle.lists.specs.Lists.{all}
use Rattle.rules.specs.declared.Rules.{Rules}
use Rattle.envelope_line.specs.LineGrammar.{Line, Written}

-- "any well-formed line at that number": "One MAIL line, then 1 to 100 RCPT lines". "Lines count from 0."
pub record WellFormedAt (n : ℕ) (line : List ℕ) : Type 0 where
  pub few : n ≤ 100
  pub formed : (path : List ℕ) × (alternative : Option (List ℕ)) × Line (eqb n 0) path alternative line

-- what may be asked of the bytes after a path: nothing; or that they are ASCII, so that no "ORCPT carries non-ASCII": only an ORCPT may
abbrev pub Any : List ℕ → Type 0
Any tail = Unit {0}

abbrev pub Ascii : List ℕ → Type 0
Ascii tail = T (all is_ascii tail)

-- The first n lines of an envelope, "each ended by CRLF", none of them refused: their bytes, what is written for them, and for each line the text
-- `<old <new>>` where its path is replaced. `Asked` is what is asked of the bytes after each line's path.
pub data EnvelopeLines (rules : Rules) (Asked : List ℕ → Type 0) : ℕ → List ℕ → List ℕ → List (List ℕ) → Type 0 where
  none : EnvelopeLines rules Asked 0 [] [] []
  then : {n : ℕ} {before line tail out new text : List ℕ} {texts : List (List ℕ)} → EnvelopeLines rules Asked n before out texts → n ≤ 100
      → Written rules (eqb n 0) line tail new text → Asked tail
      → EnvelopeLines rules Asked (suc n) (before ++ (line ++ (13 ∷ 10 ∷ []))) (out ++ (new ++ (13 ∷ 10 ∷ []))) (texts ++ (text ∷ []))
