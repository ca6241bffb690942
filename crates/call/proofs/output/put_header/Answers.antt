use Rattle.call.proofs.OutputLaws.{header_wrote}
use Rattle.letter_case.specs.LetterCase.{bytes}
use native.Mathlib.Omega.{arith}
use borrow.Author.Rules.{rules}
use Rattle.call.proofs.output.put_header.Goals as goal

pub returns : goal.returns
unfolding bytes
returns c = header_wrote _ c.requires.0 c.requires.1 (omega arith) c.add_new_field-mail_end.ensures c.add_new_field-rcpt_end.ensures c.add_fields.ensures
