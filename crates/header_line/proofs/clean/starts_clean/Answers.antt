use Rattle.utf8.specs.Window.{all_at}
use Rattle.header_line.specs.Clean.{lines_start}
use Rattle.header_line.proofs.clean.starts_clean.Goals as goal

pub returns : goal.returns
unfolding lines_start all_at
returns c = c.all_windows.ensures
