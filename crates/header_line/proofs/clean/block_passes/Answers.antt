use Rattle.std.proofs.Common.{◌∙◌}
use Rattle.header_line.specs.CleanLaws.{block_windows}
use Rattle.header_line.proofs.clean.block_passes.Goals as goal

pub returns : goal.returns
returns g c = c.all_windows.ensures ∙ block_windows g.W.Window.passes _ _ _ c.requires
