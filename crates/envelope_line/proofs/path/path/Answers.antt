use Rattle.letter_case.specs.LetterCase.{bytes}
use Rattle.envelope_line.proofs.PathLaws.{path_at, path_empty, path_mail, path_postmaster, path_rcpt}
use mathlib.Core.Path.{sym, ◌∙◌}
use Rattle.envelope_line.proofs.path.path.Goals as goal

pub returns-then-byte_at-eq62 : goal.returns-then-byte_at-eq62
unfolding path_at
returns-then-byte_at-eq62 c = path_empty _ _ c.if-mail.true (sym c.byte_at.ensures ∙ c.if-byte_at-eq62.true)

pub returns-then-mail : goal.returns-then-mail
unfolding path_at
returns-then-mail c = path_mail _ _ c.if-mail.true (λ e. c.if-byte_at-eq62.false (c.byte_at.ensures ∙ e)) c.address.ensures

pub returns-then-same_any_case : goal.returns-then-same_any_case
unfolding path_at bytes
returns-then-same_any_case c = path_postmaster _ _ c.if-mail.false c.part.ensures (sym c.same_any_case.ensures ∙ c.if-same_any_case.true)

pub returns : goal.returns
unfolding path_at bytes
returns c = path_rcpt _ _ c.if-mail.false c.part.ensures (sym c.same_any_case.ensures ∙ c.if-same_any_case.false) c.address-2.ensures
