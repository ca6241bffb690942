use Rattle.outgoing_header.proofs.HeaderOutcomeLaws.{content_passes, with_fails, content_refused, refused_observed}
use mathlib.Core.Path.{sym, ◌∙◌}
use borrow.Author.Rules.{rules}
use Rattle.outgoing_header.proofs.downgrade.Goals as goal

pub fill-requires : goal.fill-requires
fill-requires c = content_passes _ _ (sym c.of_content.ensures ∙ c.in-Ok.is)

pub returns-in-Err : goal.returns-in-Err
returns-in-Err c = refused_observed _ _ _ (content_refused _ _ _ (with_fails _ _ (sym c.of_content.ensures ∙ c.in-Err.is))) c.refused.ensures
