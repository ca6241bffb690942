use Rattle.envelope_line.proofs.PathLaws.{path_at, path_end_lem}
use mathlib.Core.Path.{sym, ◌∙◌}
use Rattle.envelope_line.proofs.path.path_end.Goals as goal

pub returns-in-Ok : goal.returns-in-Ok
unfolding path_at
returns-in-Ok c = path_end_lem c.args.mail c.args.line.now (sym c.in-Ok.is ∙ c.path.ensures)

pub returns-in-Err : goal.returns-in-Err
unfolding path_at
returns-in-Err c = path_end_lem c.args.mail c.args.line.now (sym c.in-Err.is ∙ c.path.ensures)
