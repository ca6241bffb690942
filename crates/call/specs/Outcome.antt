-- What one call answers, and both buffers afterwards.
use Rattle.outgoing_header.specs.HeaderOutcome.{HeaderVerdict}
use Rattle.std.specs.Prelude.{cond, List, [], ◌∷◌, ℕ, ltb, length, Result, Ok, Err, Option, Some, None, ⊤}
use Rattle.buffer.specs.Buffer.{overlay}
use Rattle.envelope.specs.declared.FaultAt.{FaultAt}
use Rattle.envelope.specs.Envelope.{checked, fault_number, orcpt_line, written}
use Rattle.header_line.specs.Lines.{checked_lines}
use Rattle.rules.specs.declared.Rules.{Rules}
use Rattle.outgoing_field.specs.Fate.{held_of}
use Rattle.offset.specs.Offset.{fault_offset, orcpt_offset}
use Rattle.outgoing_header.specs.HeaderOutcome.{of_size, of_lines, of_held, of_room, number_of as header_number, place_of as header_place, offset_of as header_offset}
use Rattle.call.specs.declared.Refusal.{Refusal}
use Rattle.call.specs.declared.Refusal.TheVariants.{EnvelopeOver, EnvelopeLine, OrcptLine, EnvelopeNeeds, Header}
use Rattle.call.specs.declared.Answer.{Answer}
use Rattle.call.specs.OutgoingHeader.{outgoing_header}

-- ---- the refusals

-- a call passes, or is refused
abbrev pub Verdict : Type 0
Verdict = Result ⊤ Refusal

-- the paper's number for each refusal
unfoldable pub number_of : Refusal → ℕ
number_of EnvelopeOver = 1
number_of (EnvelopeLine fault line offset) = fault_number fault
number_of (OrcptLine line offset) = 6
number_of (EnvelopeNeeds size) = 7
number_of (Header refusal) = header_number refusal

-- and its place: "0 envelope", a line, or the "length needed"
unfoldable pub place_of : Refusal → ℕ
place_of EnvelopeOver = 0
place_of (EnvelopeLine fault line offset) = line
place_of (OrcptLine line offset) = line
place_of (EnvelopeNeeds size) = size
place_of (Header refusal) = header_place refusal

-- and its offset: a byte, "from the start of the envelope or header". "For 0, 1, 7 and 8 it is 0."
unfoldable pub offset_of : Refusal → ℕ
offset_of EnvelopeOver = 0
offset_of (EnvelopeLine fault line offset) = offset
offset_of (OrcptLine line offset) = offset
offset_of (EnvelopeNeeds size) = 0
offset_of (Header refusal) = header_offset refusal

-- and which input it is about: 1 the envelope, 2 the header
unfoldable pub input_of : Refusal → ℕ
input_of EnvelopeOver = 1
input_of (EnvelopeLine fault line offset) = 1
input_of (OrcptLine line offset) = 1
input_of (EnvelopeNeeds size) = 1
input_of (Header refusal) = 2

-- ---- the order of refusals

-- a size over a limit
unfoldable pub over : ℕ → ℕ → Refusal → Verdict
over limit size refusal = cond (ltb limit size) (Err refusal) (Ok tt)

-- 2, 3, 4 and 10: "the first envelope line at fault"
unfoldable pub of_envelope : List ℕ → Result ℕ FaultAt → Verdict
of_envelope e (Ok count) = (Ok tt)
of_envelope e (Err at) = Err (EnvelopeLine at.fault at.line (fault_offset e at.fault at.line))

-- 6 of an ORCPT
unfoldable pub of_orcpt : List ℕ → Option ℕ → Verdict
of_orcpt e None = (Ok tt)
of_orcpt e (Some line) = Err (OrcptLine line (orcpt_offset e line))

-- 1, 5, 6 and 8 of the header
unfoldable pub of_header : HeaderVerdict → Verdict
of_header (Ok tt) = (Ok tt)
of_header (Err refusal) = Err (Header refusal)

-- the first refusal of these
unfoldable pub first_of : List Verdict → Verdict
first_of [] = (Ok tt)
first_of ((Ok tt) ∷ more) = first_of more
first_of (Err refusal ∷ more) = Err refusal

-- "Order: 1 (envelope first); then 2, 3 and 4 as the first envelope line at fault ..; then the first 5; then 6, ORCPT lines before
-- header fields ..; then 7; then 8." 10 stands "in place of 4". For an envelope, a header, and the lengths of both buffers.
unfoldable pub verdict : Rules → List ℕ → List ℕ → ℕ → ℕ → Verdict
verdict rules e h room₁ room₂ =
    first_of
    (over 16384 (length e) EnvelopeOver
    ∷ of_header (of_size h)
    ∷ of_envelope e (checked rules e)
    ∷ of_header (of_lines h (checked_lines h))
    ∷ of_orcpt e (orcpt_line e)
    ∷ of_header (of_held h (held_of rules h))
    ∷ over room₁ (length (written e)) (EnvelopeNeeds (length (written e)))
    ∷ of_header (of_room room₂ (length (outgoing_header rules e h)))
    ∷ [])

-- ---- the call

-- what a call answers and leaves
pub record Outcome : Type 0 where
  pub number : ℕ
  pub input : ℕ
  pub place : ℕ
  pub offset : ℕ
  pub envelope_len : ℕ
  pub header_len : ℕ
  pub envelope_buffer : List ℕ
  pub header_buffer : List ℕ

-- "A refusal changes no byte of either buffer and gives both lengths as 0. After 0 the bytes past each length are as before."
unfoldable pub outcome_of : Rules → Verdict → List ℕ → List ℕ → List ℕ → List ℕ → Outcome
outcome_of rules (Err refusal) e h b c = record {
  number = number_of refusal;
  input = input_of refusal;
  place = place_of refusal;
  offset = offset_of refusal;
  envelope_len = 0;
  header_len = 0;
  envelope_buffer = b;
  header_buffer = c;
}
outcome_of rules (Ok tt) e h b c = record {
  number = 0;
  input = 0;
  place = 0;
  offset = 0;
  envelope_len = length (written e);
  header_len = length (outgoing_header rules e h);
  envelope_buffer = overlay (written e) b;
  header_buffer = overlay (outgoing_header rules e h) c;
}

-- The outcome of a call with these rules, this envelope, this header and these two buffers.
unfoldable pub outcome : Rules → List ℕ → List ℕ → List ℕ → List ℕ → Outcome
outcome rules e h b c = outcome_of rules (verdict rules e h (length b) (length c)) e h b c

-- an answer and two buffers as an outcome
abbrev pub observed : Answer → List ℕ → List ℕ → Outcome
observed answer envelope_buffer header_buffer =
    record { number = answer.number; input = answer.input; place = answer.place; offset = answer.offset; envelope_len = answer.envelope_len; header_len = answer.header_len; envelope_buffer = envelope_buffer; header_buffer = header_buffer }
