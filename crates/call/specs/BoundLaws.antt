-- Bounds of an outcome: every number fits 32 bits, what is written fits its buffer, and the rest of the buffer stays.
use Rattle.std.specs.Prelude.{◌≡◌, ℕ, suc, ◌+◌, ◌≤◌, ◌<◌, ltb, eqb, take, drop}
use Rattle.std.proofs.Math.Path.{refl}
use Rattle.std.proofs.Common.{ap, length-append, length-take, length-drop}
use mathlib.Core.List.{List, [], ◌∷◌}
use native.Mathlib.Omega.{arith}
use Rattle.std.proofs.Math.ListN.{length}
use Rattle.std.proofs.lemmas.List.{length-map}
use Rattle.std.proofs.Math.Facts.{ltb_yes, ltb_no}
use Rattle.lists.specs.Byte.{is_ascii}
use Rattle.lists.specs.Lists.{joined}
use Rattle.lists.specs.ListsLaws.{by_test, cond_has, yes_true}
use Rattle.lists.specs.CutByLaws.{cut_few, cut_joined}
use Rattle.lists.specs.RunLaws.{run_le}
use Rattle.buffer.specs.BufferLaws.{length_overlay, overlay_past}
use Rattle.line.specs.Line.{crlf, line_len}
use Rattle.envelope_line.specs.EnvelopeLine.{orcpt_fault}
use Rattle.envelope_line.specs.declared.Fault.{Fault}
use Rattle.envelope_line.specs.declared.Fault.TheVariants.{Malformed, NoAlternative, BadAlternative, RetiredAlternative}
use Rattle.envelope.specs.declared.FaultAt.{FaultAt}
use Rattle.envelope.specs.Envelope.{lines, line_text, fault_of, fault_number, counted, checked_from, checked, texts, orcpt_from, orcpt_line, written}
use Rattle.envelope.proofs.CheckLaws.{fine_few}
use Rattle.envelope.proofs.LengthLaws.{written_le}
use Rattle.header_line.specs.Lines.{line_ok, lines_of, lines_from, checked_lines}
use Rattle.header.specs.Fields.{field_len, fields_of, line_count}
use Rattle.rules.specs.declared.Rules.{Rules}
use Rattle.outgoing_field.specs.Fate.{FirstHeld}
use Rattle.outgoing_field.specs.Fate.FirstHeld.{Absent, At as HeldAt}
use Rattle.outgoing_field.specs.Fate.{fate_of, is_held, held_from, held_of}
use Rattle.header_stop.specs.HeaderStopLaws.{line_stop_lem}
use Rattle.offset.specs.Offset.{front_line, line_start, line_at, orcpt_byte, fault_byte, fault_offset, orcpt_offset, header_line_offset, field_offset}
use Rattle.offset.specs.OffsetLaws.{front_within, fault_inside, orcpt_inside}
use Rattle.call.specs.declared.Refusal.{Refusal}
use Rattle.call.specs.declared.Refusal.TheVariants.{EnvelopeOver, EnvelopeLine, OrcptLine, EnvelopeNeeds, Header}
use Rattle.outgoing_header.specs.declared.HeaderRefusal.TheVariants.{Over, Line, Held, Needs}
use Rattle.outgoing_header.specs.HeaderOutcome.{of_size, of_lines, of_held, of_room, number_of as header_number, place_of as header_place, offset_of as header_offset}
use Rattle.outgoing_header.proofs.HeaderOutcomeLaws.{size_over, size_within, room_short, room_enough}
use Rattle.outgoing_header.proofs.HeaderBoundLaws.{malformed_le, header_line_le, held_le, field_offset_le}
use Rattle.outgoing_field.proofs.MostLaws.{most_le}
use Rattle.call.specs.OutgoingHeader.{new_fields_most, outgoing_header}
use Rattle.call.specs.Outcome.{number_of, input_of, place_of, offset_of, over, of_envelope, of_header, of_orcpt, first_of, verdict, Outcome, outcome_of, outcome}

-- the greatest number of 32 bits
abbrev pub greatest32 : ℕ
greatest32 = 4294967295
