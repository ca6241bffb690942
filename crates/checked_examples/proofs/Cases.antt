-- Theorems on Cases.antt of specs/.
use Rattle.std.specs.Prelude.{Ok}
use Rattle.std.specs.Prelude.{◌≡◌, refl, List, [], ◌∷◌, ◌++◌, map, ℕ, ◌≤◌, ◌<◌, T, leb, length, replicate}
use Rattle.std.proofs.Common.{◌∙◌, arith}
use Rattle.std.proofs.Math.Facts.{leb_yes}
use Rattle.std.specs.Int.Count.{count_leading_zeros}
use Rattle.lists.specs.Lists.{joined}
use Rattle.lists.specs.Run.{run}
use Rattle.utf8.specs.Utf8.{char_len, second_low, second_high, is_char, chars, utf8}
use Rattle.lists.specs.CutBy.{cut_after, cut_by}
use Rattle.letter_case.specs.LetterCase.{bytes, lower, same_any_case}
use Rattle.cut.specs.Cut.{cut}
use Rattle.word_spelling.specs.Spelling.{bare, spell_byte, spell}
use Rattle.base64_digits.specs.Base64.{digit64, in_base64}
use Rattle.row.specs.declared.Encoding.TheVariants.{Q}
use Rattle.row.specs.Word.{word}
use Rattle.row.specs.Row.{runs, chosen, lines, row_in, row, runs_after, lines_after, row_after_in}
use Rattle.envelope.specs.Envelope.{lines as envelope_lines, line_text, ended_fault, fault_of, fault_number, counted, checked_from, checked, texts, orcpt_from, orcpt_line, written_ended, written_of, written, mail_of, mail_replacement, only_rcpt_of, rcpt_replacement}
use Rattle.header_line.specs.Lines.{checked_lines, line_byte, name_byte, name_len, named, continuation, well_formed, line_ok, lines_of, lines_from}
use Rattle.line.specs.Line.{blank, crlf, line_len}
use Rattle.address.specs.Address.{later, byte_then, scan_then, is_atext, is_atom_byte, is_quoted_byte, is_literal_byte, dot_atom_from, dot_atom_scan, quoted_from, quoted_scan, literal_from, literal_scan, domain_scan, local_scan, address_scan, is_address, is_ascii_address}
use Rattle.xtext.specs.Xtext.{is_xchar, is_hexchar, unit_len, unit_byte, decoding_after, decoding, is_xtext, decoded, is_alt_address}
use Rattle.hex_digit.specs.Hex.{hex_digit, is_hex_digit, hex_value}
use Rattle.envelope_line.specs.EnvelopeLine.{verb, has_verb, path_scan, path_len, path, has_path, tail, well_formed as well_formed_line, value_fault, alt_fault, line_fault, orcpt_fault, new_path, without_alt, written_line, replacement}
use Rattle.header.specs.Fields.{fold, field_len, fields_of, name_of, value_of, unfolded_after, trimmed, text_of, line_count}
use Rattle.header_name.specs.Names.{groups, among, other_commented, other_kind, kind_among, kind_of}
use Rattle.field_method.specs.FieldMethod.{method_of}
use Rattle.field.specs.Field.{labelled_field, prefix, encoded_field}
use Rattle.outgoing_field.specs.Fate.{holds, method_written, method_fate, fate_of, segments_of, field_segments, header_segments, is_held, held_from, held_of}
use Rattle.encoded_word.specs.Segments.{rendered}
use Rattle.rules.specs.declared.Rules.TheVariants.{Spool}
use Rattle.call.specs.OutgoingHeader.{new_field, new_fields, outgoing_segments, outgoing_header}
use Rattle.outgoing_header.specs.HeaderOutcome.{of_size, of_lines, of_held, of_room, number_of as header_number, place_of as header_place}
use Rattle.call.specs.Outcome.{number_of, place_of, over, of_envelope, of_header, of_orcpt, first_of, verdict, Outcome, outcome_of, outcome}
use Rattle.call.proofs.OutputLaws.{of_input, both_fit, envelope_short, header_short}
use Rattle.parameter.specs.Parameter.{params, spaced, is_keyword_byte, keyword_len, keyword, has_value, value, is_orcpt, is_alt, is_value_byte, is_param, alts, alts_ok, alt, alt_place, orcpt_clean}
use Rattle.checked_examples.specs.Cases.{Case, cases, header_named, mailed, whole_envelope, whole_header}
use Rattle.checked_examples.specs.Cases.Case.{cuts_to, needs, refused, taken}

-- how many characters each word of a text's row in Q holds, and its length between opening and closing: "Document 01's word cases stay as
-- those of Q alone"
abbrev pub word_sizes : List ℕ → List (ℕ × ℕ)
word_sizes text = map (λ (run : List (List ℕ)). (length run, length (spell (joined run)))) (runs (Q ∷ []) 63 (chars text))

-- the number and the place of a call's outcome, "number and place"
abbrev pub answer : Outcome → ℕ × ℕ
answer o = (o.number, o.place)

-- and with both lengths, "number and lengths"
abbrev pub lengths : Outcome → ℕ × ℕ × ℕ × ℕ
lengths o = (o.number, o.place, o.envelope_len, o.header_len)

-- what a case says
abbrev pub Right : Case → Type 0
Right (cuts_to text sizes) = word_sizes text ≡ sizes
Right (refused e h number place) = (b c : List ℕ) → answer (outcome Spool e h b c) ≡ (number, place)
Right (needs e h n m) = (b c : List ℕ)
    → (n ≤ length b → m ≤ length c → lengths (outcome Spool e h b c) ≡ (0, 0, n, m))
    × (length b < n → lengths (outcome Spool e h b c) ≡ (7, n, 0, 0))
    × (n ≤ length b → length c < m → lengths (outcome Spool e h b c) ≡ (8, m, 0, 0))
Right (taken e h) = (b c : List ℕ) → 1000 ≤ length b → 1000 ≤ length c → answer (outcome Spool e h b c) ≡ (0, 0)

-- each of these cases is right
abbrev pub AllRight : List Case → Type 0
AllRight [] = Unit {0}
AllRight (c ∷ cs) = Right c × AllRight cs

-- an input that no number from 1 to 6 refuses is taken where both outputs fit
taken_by : (e h : List ℕ) → first_of (of_input Spool e h) ≡ (Ok tt) → T (leb (length (written e)) 1000) → T (leb (length (outgoing_header Spool e h)) 1000)
    → (b c : List ℕ) → 1000 ≤ length b → 1000 ≤ length c → answer (outcome Spool e h b c) ≡ (0, 0)
unfolding outcome outcome_of
taken_by e h q n m b c k l =
    let n' : length (written e) ≤ 1000 = leb_yes n in
    let m' : length (outgoing_header Spool e h) ≤ 1000 = leb_yes m in
    rw (both_fit Spool e h (length b) (length c) q (omega arith) (omega arith))

-- an input that no number from 1 to 6 refuses, whose outputs have these lengths
needs_by : (e h : List ℕ) (n m : ℕ) → first_of (of_input Spool e h) ≡ (Ok tt) → length (written e) ≡ n → length (outgoing_header Spool e h) ≡ m → Right (Case.needs e h n m)
unfolding outcome outcome_of number_of place_of header_number header_place
needs_by e h n m q p r b c = (
  λ k l. rw (both_fit Spool e h (length b) (length c) q (omega arith) (omega arith), p, r),
  λ k. rw (envelope_short Spool e h (length b) (length c) q (omega arith), p),
  λ k l. rw (header_short Spool e h (length b) (length c) q (omega arith) (omega arith), r),
)

pub cases_right : AllRight cases
unfolding alt alt_place orcpt_clean new_path without_alt row_after_in runs_after lines_after name_of unfolded_after trimmed text_of groups among other_commented other_kind kind_among kind_of method_of labelled_field prefix encoded_field holds method_written method_fate line_count row_in runs chosen cut lines word digit64 in_base64 spell spell_byte bare hex_digit bytes lower same_any_case crlf line_len later byte_then scan_then is_atext is_atom_byte is_quoted_byte is_literal_byte dot_atom_from dot_atom_scan quoted_from quoted_scan literal_from literal_scan domain_scan local_scan address_scan is_address is_ascii_address run utf8 chars cut_by cut_after char_len count_leading_zeros is_char second_low second_high is_xchar is_hex_digit hex_value is_hexchar unit_len unit_byte decoding_after decoding is_xtext decoded is_alt_address verb has_verb path_scan path_len path has_path tail params spaced is_keyword_byte keyword_len keyword has_value value is_orcpt is_alt is_value_byte is_param alts alts_ok well_formed value_fault alt_fault line_fault envelope_lines line_text ended_fault fault_of fault_number counted checked_from checked line_byte blank name_byte name_len named continuation line_ok lines_of lines_from checked_lines well_formed_line number_of place_of header_number header_place over of_size of_envelope of_header of_lines of_orcpt of_held of_room first_of verdict outcome_of outcome texts orcpt_from orcpt_line orcpt_fault written_ended written_of written written_line held_from held_of is_held fate_of fold field_len fields_of value_of new_field new_fields outgoing_segments outgoing_header mail_of mail_replacement only_rcpt_of rcpt_replacement replacement segments_of field_segments header_segments rendered
cases_right = (
  refl,
  (
    refl,
    (
      refl,
      (
        refl,
        (
          λ b c. refl,
          (
            λ b c. refl,
            (
              λ b c. refl,
              (
                λ b c. refl,
                (
                  λ b c. refl,
                  (
                    λ b c. refl,
                    (
                      λ b c. refl,
                      (taken_by (mailed (bytes "a@x") []) (header_named 76) refl tt tt, (λ b c. refl, (needs_by whole_envelope whole_header 54 140 refl refl refl, tt))),
                    ),
                  ),
                ),
              ),
            ),
          ),
        ),
      ),
    ),
  ),
)
