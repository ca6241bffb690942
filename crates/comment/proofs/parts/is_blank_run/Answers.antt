use Rattle.comment.proofs.PartsLaws.{blank_run}
use borrow.Author.Rules.{rules}
use Rattle.comment.proofs.parts.is_blank_run.Goals as goal

pub returns : goal.returns
returns c = blank_run _ _ c.blanks_end.ensures
