use Rattle.read_back.specs.ReadBackLaws.{read_by_rules}
use borrow.Author.Rules.{rules}
use Rattle.read_back.proofs.read_downgraded.Goals as goal

pub returns : goal.returns
returns c = read_by_rules c.hennelaku_read_downgraded_slices.ensures
