use Rattle.std.specs.Prelude.{Ok, Err}
use Rattle.call.proofs.OutputLaws.{refused_observed, content_refused}
use Rattle.call.proofs.OutcomeLaws.{with_passes, with_fails}
use mathlib.Core.Path.{sym, ◌∙◌}
use borrow.Author.Rules.{rules}
use Rattle.call.proofs.downgrade_checked.Goals as goal

pub of_content-requires : goal.of_content-requires
of_content-requires c = c.requires.short₂

pub fill-requires : goal.fill-requires
fill-requires c = let both = with_passes _ _ (sym c.of_content.ensures ∙ c.in-Ok.is) in (c.requires, record { content = both.0; greatest = both.1 })

pub returns-in-Err : goal.returns-in-Err
returns-in-Err c = refused_observed _ _ _ _ _ (content_refused c.requires _ _ (with_fails _ _ (sym c.of_content.ensures ∙ c.in-Err.is))) c.refused.ensures
