use Rattle.call.proofs.OutcomeLaws.{line_content, past_lines}
use Rattle.call.proofs.refusals.of_content.Goals as goal

pub returns-in_err-of_lines : goal.returns-in_err-of_lines
returns-in_err-of_lines c = line_content _ _ _ _ c.of_lines.ensures c.in_err-of_lines.was c.from_residual.ensures.1

pub returns : goal.returns
returns c = past_lines _ _ _ c.of_lines.ensures c.in_ok-of_lines.was c.non_ascii.ensures
