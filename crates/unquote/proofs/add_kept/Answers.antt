use Rattle.unquote.specs.UnquoteLaws.{kept_goes, kept_stays}
use Rattle.buffer.specs.BufferLaws.{capped_none, capped_same}
use native.Mathlib.Omega.{arith}
use Rattle.unquote.proofs.add_kept.Goals as goal

pub returns-then-not-stays : goal.returns-then-not-stays
returns-then-not-stays c = capped_same (kept_goes c.args.stays c.args.b c.if-not-stays.true) (capped_none _ _ (omega arith))

pub returns : goal.returns
returns c = capped_same (kept_stays c.args.stays c.args.b c.if-not-stays.false) c.add_byte.ensures
