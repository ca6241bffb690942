use mathlib.Core.Path.{sym}
use Rattle.line.specs.LineLaws.{crlf_at_lem, crlf_past}
use Rattle.line.proofs.crlf_at.Goals as goal

pub returns-then-s-at : goal.returns-then-s-at
returns-then-s-at c = crlf_past _ _ c.if-s-at.true

pub returns : goal.returns
returns c = rw c.byte_at.ensures (sym (crlf_at_lem c.args.s.now c.args.at))
