use Rattle.utf8.specs.WindowLaws.{placed_by}
use Rattle.utf8.proofs.is_placed.Goals as goal

pub returns : goal.returns
returns c = placed_by c.args.a c.args.b c.args.c c.args.d
