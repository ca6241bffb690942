use Rattle.unquote.specs.Unquote.{unquoted}
use Rattle.unquote.proofs.add_unquoted.Goals as goal

pub returns : goal.returns
unfolding unquoted
returns c = c.add_kept_text.ensures
