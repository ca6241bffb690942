use Rattle.std.proofs.Common.{◌∙◌, sym}
use Rattle.received.proofs.PassesLaws.{passes_not, passes_short, passes_lines}
use Rattle.received.specs.TokenLaws.{clear_start}
use lib.Seq.{take-length}
use Rattle.received.proofs.held.passes.Goals as goal

pub returns-then-not-all_clear : goal.returns-then-not-all_clear
returns-then-not-all_clear c = passes_not _ _ ((rw (take-length c.args.value.now) at c.all_clear.ensures.is) ∙ sym (clear_start _)) c.if-not-all_clear.true

pub returns-then-name-value : goal.returns-then-name-value
returns-then-name-value c = passes_short _ _ ((rw (take-length c.args.value.now) at c.all_clear.ensures.is) ∙ sym (clear_start _)) c.if-not-all_clear.false c.if-name-value.true

pub returns : goal.returns
returns c = passes_lines _ _ ((rw (take-length c.args.value.now) at c.all_clear.ensures.is) ∙ sym (clear_start _)) c.if-not-all_clear.false c.lines_fit.ensures
