use Rattle.std.proofs.Common.{sym}
use Rattle.lists.specs.RunLaws.{run_end}
use Rattle.byte_class.proofs.long_run_end.Goals as goal

pub returns-then-s-at : goal.returns-then-s-at
returns-then-s-at g c = sym (run_end g.C.Class.member _ _ c.if-s-at.true)
