use Rattle.std.proofs.Common.{sym, ◌∙◌, arith}
use Rattle.lists.specs.ListsLaws.{true_yes}
use Rattle.header_line.specs.CleanLaws.{advance_by, line_block}
use Rattle.header_line.proofs.clean.block_end.Goals as goal

pub returns-then-is_calm_block : goal.returns-then-is_calm_block
returns-then-is_calm_block c = advance_by c.args.h.now c.args.at 64 (omega arith) (omega (arith, c.is_calm_block.ensures.fits c.if-is_calm_block.true)) (c.is_calm_block.ensures.passes c.if-is_calm_block.true)

pub returns-then-block_passes : goal.returns-then-block_passes
returns-then-block_passes c = advance_by c.args.h.now c.args.at 32 (omega arith) (omega arith) (line_block c.args.h.now c.args.at 32 (omega arith) (true_yes _ (sym c.block_passes.ensures ∙ c.if-block_passes.true)))

pub returns-then-block_passes-2 : goal.returns-then-block_passes-2
returns-then-block_passes-2 c = advance_by c.args.h.now c.args.at 32 (omega arith) (omega arith) (true_yes _ (sym c.block_passes-2.ensures ∙ c.if-block_passes-2.true))
