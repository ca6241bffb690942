use Rattle.outgoing_header.proofs.HeaderOutcomeLaws.{too_long, written_out}
use mathlib.Core.Path.{refl}
use borrow.Author.Rules.{rules}
use Rattle.outgoing_header.proofs.fill.Goals as goal

pub needs-n-requires : goal.needs-n-requires
needs-n-requires c = c.requires

pub returns-then-buffer-n : goal.returns-then-buffer-n
returns-then-buffer-n c = too_long c.requires.0 _ c.needs-n.ensures c.if-buffer-n.true c.refused.ensures

pub put-requires : goal.put-requires
put-requires c = c.requires.0

pub returns : goal.returns
returns c = written_out c.requires.0 _ c.needs-n.ensures c.if-buffer-n.false refl refl refl c.put.ensures
