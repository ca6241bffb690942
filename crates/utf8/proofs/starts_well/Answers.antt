use Rattle.utf8.specs.Window.{starts, all_at}
use Rattle.utf8.proofs.starts_well.Goals as goal

pub returns : goal.returns
unfolding starts all_at
returns c = c.all_windows.ensures
