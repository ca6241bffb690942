-- Laws of the outcome where the input is accepted: measured, then written.
use Rattle.std.specs.Prelude.{◌≡◌, refl, List, [], ◌∷◌, ◌++◌, ℕ, ◌+◌, ◌*◌, ◌≤◌, ◌<◌, min, Ok}
use Rattle.std.proofs.Common.{sym, ◌∙◌, arith, length-append, lt-ltb, le-ltb}
use Rattle.std.proofs.Math.Path.{ap}
use Rattle.std.proofs.Math.ListN.{length}
use Rattle.buffer.specs.Buffer.{Wrote, AppendedCapped, greatest}
use Rattle.buffer.specs.BufferLaws.{capped_then, capped_same, wrote_of}
use Rattle.letter_case.specs.LetterCase.{bytes}
use Rattle.encoded_word.specs.Segments.{rendered}
use Rattle.encoded_word.specs.SegmentsLaws.{rendered_append}
use Rattle.envelope_line.specs.declared.Fault.{Fault}
use Rattle.envelope.specs.declared.FaultAt.{FaultAt}
use Rattle.envelope.specs.Envelope.{checked, texts, written_of, written, orcpt_line, mail_replacement, only_rcpt_of, rcpt_replacement}
use Rattle.envelope.specs.LineStarts.{EnvelopeChecked, texts_at}
use Rattle.envelope.proofs.WrittenLaws.{stored}
use Rattle.envelope.proofs.LengthLaws.{written_le}
use Rattle.envelope.proofs.ReplacementLaws.{mail_replacement_short, rcpt_replacement_short}
use Rattle.header_line.specs.Lines.{checked_lines}
use Rattle.rules.specs.declared.Rules.{Rules}
use Rattle.outgoing_field.specs.Fate.{FirstHeld}
use Rattle.outgoing_field.specs.Fate.FirstHeld.{Absent, At}
use Rattle.outgoing_field.specs.Fate.{segments_of, header_segments, header_written, limited, held_of}
use Rattle.outgoing_field.proofs.FateLaws.{limited_short, unheld_header}
use Rattle.outgoing_field.specs.Most.{most_of}
use Rattle.outgoing_field.proofs.MostLaws.{most_le}
use Rattle.outgoing_field.proofs.OwedLaws.{owed_header}
use Rattle.call.specs.declared.Refusal.{Refusal}
use Rattle.call.specs.declared.Refusal.TheVariants.{EnvelopeOver, EnvelopeLine, EnvelopeNeeds, Header}
use Rattle.call.specs.declared.Answer.{Answer}
use Rattle.call.specs.OutgoingHeader.{new_field, new_fields, new_fields_most, outgoing_segments, outgoing_header}
use Rattle.call.specs.Outcome.{over, of_envelope, of_header, of_orcpt, first_of, verdict, outcome_of, outcome, observed}
use Rattle.offset.specs.Offset.{fault_offset}
use Rattle.outgoing_header.specs.declared.HeaderRefusal.TheVariants.{Over, Needs}
use Rattle.outgoing_header.specs.HeaderOutcome.{of_size, of_lines, of_held, of_room}
use Rattle.outgoing_header.specs.HeaderOutcomeLaws.{Needed, Passed as PassedHeader}
use Rattle.outgoing_header.proofs.HeaderOutcomeLaws.{size_over, size_within, room_short, room_enough, needed_none}
use Rattle.call.specs.OutcomeLaws.{RefusedBy}

-- no header line is malformed, and no ORCPT and no held field carries non-ASCII; and this is the most of the header
pub record Accepted (rules : Rules) (e h : List ℕ) (most : ℕ) : Type 0 where
  pub content : first_of (of_header (of_lines h (checked_lines h)) ∷ of_orcpt e (orcpt_line e) ∷ of_header (of_held h (held_of rules h)) ∷ []) ≡ (Ok tt)
  pub greatest : most ≡ most_of rules h

-- ---- the header, by the texts of its new first fields

unfoldable pub header_of : Rules → List ℕ → List ℕ → List ℕ → List ℕ
header_of rules mail rcpt h =
    rendered ((new_field (bytes "Downgraded-Mail-From:") mail ++ new_field (bytes "Downgraded-Rcpt-To:") rcpt) ++ header_segments rules h)

-- texts of new first fields within their limits
pub record Short (mail rcpt : List ℕ) : Type 0 where
  pub of_mail : length mail ≤ 2048
  pub of_rcpt : length rcpt ≤ 2048

-- these are the texts of the new first fields
pub record Texts (e mail rcpt : List ℕ) : Type 0 where
  pub of_mail : mail ≡ mail_replacement e
  pub of_rcpt : rcpt ≡ rcpt_replacement e

-- ---- what the writers need

-- An envelope and a header within their limits; the envelope passes the check, with so many RCPT lines whose starts are the first
-- of an array.
pub record Ready (rules : Rules) (e h array : List ℕ) (count : ℕ) : Type 0 where
  pub short₁ : length e ≤ 16384
  pub short₂ : length h ≤ 32768
  pub passed : checked rules e ≡ Ok count
  pub starts : texts_at count array e ≡ texts e

-- The first `count` entries of an array are the starts of the RCPT lines of an envelope, and what is written for it is short.
pub record StartsOf (e array : List ℕ) (count : ℕ) : Type 0 where
  pub starts : texts_at count array e ≡ texts e
  pub size : length (written e) ≤ 16384
