use Rattle.letter_case.specs.LetterCase.{bytes}
use Rattle.envelope_line.proofs.PathLaws.{has_verb_mail, has_verb_rcpt}
use Rattle.envelope_line.specs.EnvelopeLine.{verb}
use Rattle.envelope_line.proofs.path.has_verb.Goals as goal

pub returns-then-mail : goal.returns-then-mail
unfolding verb bytes
returns-then-mail c = has_verb_mail _ _ c.if-mail.true c.part.ensures c.same_any_case.ensures

pub returns : goal.returns
unfolding verb bytes
returns c = has_verb_rcpt _ _ c.if-mail.false c.part-2.ensures c.same_any_case-2.ensures
