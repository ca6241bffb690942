-- The outgoing header as segments.
use Rattle.std.specs.Prelude.{List, [], ◌∷◌, ◌++◌, ℕ}
use Rattle.letter_case.specs.LetterCase.{bytes}
use Rattle.encoded_word.specs.Segments.{Segment, rendered}
use Rattle.envelope.specs.Envelope.{mail_replacement, rcpt_replacement}
use Rattle.rules.specs.declared.Rules.{Rules}
use Rattle.field.specs.Field.{labelled_field}
use Rattle.outgoing_field.specs.Fate.{header_segments}

-- a field with this label that holds "encoded words of `<old <new>>`"; none where no path was replaced
unfoldable pub new_field : List ℕ → List ℕ → List Segment
new_field label [] = []
new_field label (b ∷ text) = labelled_field label (b ∷ text)

-- "New first fields: `Downgraded-Mail-From` when the MAIL path was replaced, then `Downgraded-Rcpt-To` when there is exactly one RCPT
-- line and it was replaced."
unfoldable pub new_fields : List ℕ → List Segment
new_fields e = new_field (bytes "Downgraded-Mail-From:") (mail_replacement e) ++ new_field (bytes "Downgraded-Rcpt-To:") (rcpt_replacement e)

-- the most bytes of both: two addresses of lines of 998 bytes, in `< < >>`
unfoldable pub new_fields_most : ℕ
new_fields_most = 20600

-- the new first fields, then what becomes of each field of the header
unfoldable pub outgoing_segments : Rules → List ℕ → List ℕ → List Segment
outgoing_segments rules e h = new_fields e ++ header_segments rules h

-- the header written
unfoldable pub outgoing_header : Rules → List ℕ → List ℕ → List ℕ
outgoing_header rules e h = rendered (outgoing_segments rules e h)
