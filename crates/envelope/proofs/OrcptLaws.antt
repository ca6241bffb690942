-- Laws of the search for an ORCPT that carries non-ASCII, line by line.
use Rattle.std.specs.Prelude.{◌≡◌, Bool, true, false, cond, List, ℕ, suc, ◌+◌, ◌-◌, ◌≤◌, ◌<◌, min, eqb, length, take, drop, Some, None}
use Rattle.std.proofs.Common.{◌∙◌, add-one}
use Rattle.buffer.specs.Buffer.{greatest}
use Rattle.line.specs.Line.{line_len}
use Rattle.line.specs.LineLaws.{drop_capped}
use Rattle.envelope_line.specs.EnvelopeLine.{orcpt_fault}
use Rattle.envelope.specs.Envelope.{texts, orcpt_from}
use Rattle.envelope.proofs.LinesLaws.{texts_end, texts_at_lem, text_part}

module _ (s : List ℕ) (i n : ℕ) where
  pub orcpt_end : length s ≤ i → orcpt_from n (texts (drop i s)) ≡ None
  unfolding orcpt_from
  orcpt_end h = rw (texts_end s i h)

  module _ (h : i < length s) (end : ℕ) (d : end ≡ i + line_len (drop i s)) {l : List ℕ} {r : Bool} (e : l ≡ take (end - i) (drop i s)) (q : r ≡ orcpt_fault (eqb n 0) l) where
    orcpt_cons : orcpt_from n (texts (drop i s)) ≡ cond r (Some n) (orcpt_from (suc n) (texts (drop (end + 2) s)))
    unfolding orcpt_from
    orcpt_cons = rw (q, text_part s i end d e, texts_at_lem s i end d h)

    pub orcpt_found : r ≡ true → orcpt_from n (texts (drop i s)) ≡ Some n
    orcpt_found t = orcpt_cons ∙ rw t

    pub orcpt_next : (next : ℕ) → r ≡ false → next ≡ min (end + 2) greatest → length s ≤ greatest → orcpt_from n (texts (drop i s)) ≡ orcpt_from (n + 1) (texts (drop next s))
    orcpt_next next t p g = orcpt_cons ∙ rw (t, add-one, drop_capped s (end + 2) next p g)
