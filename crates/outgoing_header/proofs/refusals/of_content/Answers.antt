use Rattle.outgoing_header.proofs.HeaderOutcomeLaws.{over_content, line_content, held_content}
use mathlib.Core.Path.{sym, ◌∙◌}
use Rattle.outgoing_header.proofs.refusals.of_content.Goals as goal

pub returns-then-header-gt32768 : goal.returns-then-header-gt32768
returns-then-header-gt32768 c = over_content _ _ _ c.if-header-gt32768.true

pub returns-in_err-of_lines : goal.returns-in_err-of_lines
returns-in_err-of_lines c = line_content _ _ c.if-header-gt32768.false c.of_lines.ensures _ _ _ c.in_err-of_lines.was c.from_residual.ensures.1

pub returns : goal.returns
returns c = held_content _ _ c.if-header-gt32768.false c.of_lines.ensures _ c.in_ok-of_lines.was c.of_held.ensures
