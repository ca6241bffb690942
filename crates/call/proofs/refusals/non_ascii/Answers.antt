use Rattle.call.specs.Outcome.{first_of, of_orcpt}
use Rattle.call.specs.OutcomeLaws.{with_most}
use Rattle.call.proofs.OutcomeLaws.{held_content, past_orcpt, content_ok, content_err}
use mathlib.Core.Path.{refl}
use Rattle.call.proofs.refusals.non_ascii.Goals as goal

pub returns-in-Some : goal.returns-in-Some
unfolding first_of of_orcpt with_most
returns-in-Some c = rw (← c.orcpt_line.ensures, c.in-Some.is, c.of_orcpt.ensures)

pub returns-in_err-of_held : goal.returns-in_err-of_held
returns-in_err-of_held c = past_orcpt _ _ _ c.orcpt_line.ensures c.in_default.is (held_content _ _ c.requires c.of_held.ensures (content_err _ _ c.in_err-of_held.was c.from_residual.ensures.1))

pub returns : goal.returns
returns c = past_orcpt _ _ _ c.orcpt_line.ensures c.in_default.is (held_content _ _ c.requires c.of_held.ensures (content_ok c.in_ok-of_held.was))
