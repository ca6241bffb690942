use Rattle.std.proofs.Common.{sym, ◌∙◌, arith}
use Rattle.header_line.specs.CleanLaws.{calm_by}
use Rattle.header_line.proofs.clean.is_calm_block.Goals as goal

pub returns : goal.returns
returns c = calm_by c.args.h.now c.args.at _ (omega arith) (sym c.is_ascii3.ensures ∙ c.if-not-is_ascii3.false) c.block_passes.ensures
