-- The byte that a refusal points to, as an offset from the start of the envelope or of the header.
use Rattle.std.specs.Prelude.{Bool, List, ℕ, zero, suc, ◌+◌, ◌-◌, Result, Ok, Err, ⊤, eqb, length, take, drop}
use Rattle.lists.specs.Byte.{is_ascii}
use Rattle.lists.specs.Run.{run}
use Rattle.line.specs.Line.{line_len}
use Rattle.parameter.specs.Parameter.{params, keyword_len, alt, alt_place}
use Rattle.envelope_line.specs.EnvelopeLine.{verb_len, tail}
use Rattle.envelope_line.specs.declared.Fault.{Fault}
use Rattle.envelope_line.specs.declared.Fault.TheVariants.{Malformed, NoAlternative, BadAlternative, RetiredAlternative}
use Rattle.envelope.specs.Envelope.{line_text}
use Rattle.header_stop.specs.HeaderStop.{line_stop as header_stop}
use Rattle.envelope_stop.specs.EnvelopeStop.{line_stop as envelope_stop}

-- ---- lines by number

-- the line at the front of a text, with its CRLF; what follows the last CRLF is a line too
unfoldable pub front_line : List ℕ → List ℕ
front_line s = take (line_len s + 2) s

-- where line n starts; the end of the text where it has no such line. "Lines count from 0."
unfoldable pub line_start : ℕ → List ℕ → ℕ
line_start zero s = 0
line_start (suc n) s = length (front_line s) + line_start n (drop (length (front_line s)) s)

-- ---- bytes of an envelope line, without its CRLF

-- how many bytes of a line stand before this rest of it
abbrev pub before : List ℕ → List ℕ → ℕ
before line rest = length line - length rest

-- "for 3 the start of the path"
unfoldable pub path_byte : Bool → List ℕ → ℕ
path_byte mail line = before line (drop (verb_len mail) line)

-- "for 4 the start of the ALT-ADDRESS value": past the space, the keyword and `=`; for 10 "4's offset"
unfoldable pub alt_value_byte : Bool → List ℕ → ℕ
alt_value_byte mail line =
    let t = tail mail line in
    let ps = params t in
    before line (drop (alt_place ps + (keyword_len (alt ps) + 2)) t)

-- "For 6 .. the first non-ASCII byte of an ORCPT value": after the path only these may hold non-ASCII
unfoldable pub orcpt_byte : Bool → List ℕ → ℕ
orcpt_byte mail line = let t = tail mail line in before line (drop (run is_ascii t) t)

-- ---- by refusal

-- line n of a text, with its CRLF
unfoldable pub line_at : ℕ → List ℕ → List ℕ
line_at n s = front_line (drop (line_start n s) s)

-- In line n of an envelope, with its CRLF: for 2 "the first byte at which .. the line, its CRLF with it, stops being a beginning of any
-- well-formed line at that number".
unfoldable pub fault_byte : Fault → ℕ → List ℕ → ℕ
fault_byte Malformed n line = envelope_stop n line
fault_byte NoAlternative n line = path_byte (eqb n 0) (line_text line)
fault_byte BadAlternative n line = alt_value_byte (eqb n 0) (line_text line)
fault_byte RetiredAlternative n line = alt_value_byte (eqb n 0) (line_text line)

-- 2, 3, 4 and 10 at line n of an envelope
unfoldable pub fault_offset : List ℕ → Fault → ℕ → ℕ
fault_offset e fault n = line_start n e + fault_byte fault n (line_at n e)

-- the same by what a check of the line found; its first byte where it has no fault
unfoldable pub checked_offset : List ℕ → Result ⊤ Fault → ℕ → ℕ
checked_offset e (Ok _) n = line_start n e
checked_offset e (Err fault) n = fault_offset e fault n

-- 6 at line n of an envelope
unfoldable pub orcpt_offset : List ℕ → ℕ → ℕ
orcpt_offset e n = line_start n e + orcpt_byte (eqb n 0) (line_text (line_at n e))

-- 5 at line n of a header, which starts at the byte `at`
unfoldable pub header_line_offset : List ℕ → ℕ → ℕ → ℕ
header_line_offset h n at = at + header_stop (eqb n 0) (front_line (drop at h))

-- "For 6 it is the first non-ASCII byte .. of the field", which starts at the byte `at`
unfoldable pub field_offset : List ℕ → ℕ → ℕ
field_offset h at = at + run is_ascii (drop at h)
