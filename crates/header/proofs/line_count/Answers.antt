use mathlib.Core.Path.{sym, ◌∙◌}
use Rattle.header.specs.FieldLaws.{counted_yes, counted_no, counted_end}
use Rattle.header.proofs.line_count.Goals as goal
use Rattle.header.proofs.line_count.Goals.{then-crlf_at, else-crlf_at}

pub loop-i-preserved : goal.loop-i-preserved
loop-i-preserved c = elim c.if-crlf_at.branch [
  | then-crlf_at w ↦ rw w.n-is (counted_yes c.loop-i.invariant c.loop-i-test.true (sym c.crlf_at.ensures ∙ w.if-crlf_at.true))
  | else-crlf_at w ↦ rw w.n-is (counted_no c.loop-i.invariant c.loop-i-test.true (sym c.crlf_at.ensures ∙ w.if-crlf_at.false))
]

pub returns : goal.returns
returns c = counted_end c.loop-i.invariant c.loop-i-test.false
