use mathlib.Core.Path.{sym, ◌∙◌, ap}
use Rattle.line.specs.Line.{blank}
use Rattle.header_line.specs.LineLaws.{start_blank, start_name}
use Rattle.header_line.proofs.starts_well.Goals as goal

pub returns-then-is_blank : goal.returns-then-is_blank
returns-then-is_blank c = start_blank _ _ _ (ap blank (sym c.byte_at.ensures) ∙ sym c.is_blank.ensures ∙ c.if-is_blank.true)

pub returns : goal.returns
returns c = c.is_named.ensures ∙ start_name _ _ _ (ap blank (sym c.byte_at.ensures) ∙ sym c.is_blank.ensures ∙ c.if-is_blank.false)
