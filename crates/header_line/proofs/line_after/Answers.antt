use Rattle.std.proofs.Common.{sym, ◌∙◌}
use Rattle.header_line.specs.LineLaws.{lined_text, lined_shape, lined_good, no_line, some_line, line_past}
use Rattle.header_line.proofs.line_after.Goals as goal

pub returns-then-h-at : goal.returns-then-h-at
returns-then-h-at c = line_past _ _ _ _ c.if-h-at.true

pub returns-then-not-crlf_at : goal.returns-then-not-crlf_at
returns-then-not-crlf_at c = no_line _ _ _ _ (lined_text _ _ c.text_end-e.ensures (sym c.crlf_at.ensures ∙ c.if-not-crlf_at.true))

pub returns-then-not-is_shaped : goal.returns-then-not-is_shaped
returns-then-not-is_shaped c = no_line _ _ _ _ (lined_shape _ _ c.text_end-e.ensures (sym c.crlf_at.ensures ∙ c.if-not-crlf_at.false) (sym c.is_shaped.ensures ∙ c.if-not-is_shaped.true))

pub returns : goal.returns
returns c = some_line _ _ _ _ (lined_good _ _ c.text_end-e.ensures (sym c.crlf_at.ensures ∙ c.if-not-crlf_at.false) (sym c.is_shaped.ensures ∙ c.if-not-is_shaped.false))
