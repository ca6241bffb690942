use Rattle.header.specs.FieldLaws.{ends_not, ends_by}
use Rattle.header.proofs.ends_at.Goals as goal

pub returns-then-h-i-ne13 : goal.returns-then-h-i-ne13
returns-then-h-i-ne13 c = ends_not c.args.h.now c.args.i c.if-h-i-ne13.true

pub returns : goal.returns
returns c = ends_by c.args.h.now c.args.i _ _ _ c.crlf_at.ensures c.byte_at.ensures c.is_blank.ensures
