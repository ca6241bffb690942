use Rattle.std.proofs.Common.{arith}
use Rattle.header_line.specs.CleanLaws.{clear_end}
use Rattle.header_line.proofs.clean.blocks_clean.Goals as goal

pub returns : goal.returns
returns c = clear_end c.args.h.now _ _ _ c.loop-at-test.false (omega arith) c.loop-at.invariant.1 c.block_passes.ensures
