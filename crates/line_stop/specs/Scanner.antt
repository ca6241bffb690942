-- A scan for the first byte at which a text stops being a beginning of any line: an automaton over the bytes before the CRLF, whose
-- states tell the fewest bytes that still complete a line, and a limit on the line. ScannerLaws.antt proves what it finds.
use Rattle.std.specs.Prelude.{Bool, cond, ◌&&◌, List, [], ◌∷◌, ℕ, suc, ◌+◌, leb, eqb}

pub record Scanner (S : Type 0) : Type 0 where
  pub step : S → ℕ → S
  -- the line may end here
  pub done : S → Bool
  -- some bytes lead from here to where the line may end; the fewest
  pub live : S → Bool
  pub need : S → ℕ

-- the last byte of a line: LF, after its CR
unfoldable pub stop_lf : List ℕ → ℕ
stop_lf [] = 0
stop_lf (b ∷ l) = cond (eqb b 10) 1 0

module _ {S : Type 0} (a : Scanner S) (limit : ℕ) where
  -- a line of which n bytes stand can still be completed
  unfoldable pub alive : ℕ → S → Bool
  alive n s = a.live s && leb (n + a.need s) limit

  -- the scan: from the state s, n bytes into the line
  unfoldable pub stop_from : ℕ → S → List ℕ → ℕ
  stop_from n s [] = 0
  stop_from n s (b ∷ l) =
      cond (eqb b 13)
      (cond (a.done s) (suc (stop_lf l)) 0)
      (cond (alive (suc n) (a.step s b)) (suc (stop_from (suc n) (a.step s b) l)) 0)
