use Rattle.header_line.specs.CleanLaws.{clean_tests}
use native.Mathlib.Omega.{arith}
use Rattle.header_line.proofs.clean.is_clean.Goals as goal

pub returns : goal.returns
returns c = clean_tests c.args.h.now _ _ _ (omega arith) c.starts_clean.ensures (c.if-not-starts_clean.false) c.ends_clean.ensures (c.if-not-ends_clean.false) c.blocks_clean.ensures
