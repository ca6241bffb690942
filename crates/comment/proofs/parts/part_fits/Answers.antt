use mathlib.Core.Path.{sym, ◌∙◌}
use borrow.Author.Rules.{rules}
use Rattle.comment.proofs.PartsLaws.{fits_short, fits_long}
use Rattle.comment.proofs.parts.part_fits.Goals as goal

pub returns-then-part-le900 : goal.returns-then-part-le900
returns-then-part-le900 c = sym (fits_short _ c.if-part-le900.true)

pub returns : goal.returns
returns c = c.is_blank_run.ensures ∙ sym (fits_long _ c.if-part-le900.false)
