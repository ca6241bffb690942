-- The checked examples that the paper marks P, as one table under one theorem about the definitions: "Document 01's cases are spool messages."
use Rattle.std.specs.Prelude.{◌≡◌, refl, List, [], ◌∷◌, ◌++◌, map, ℕ, ◌≤◌, ◌<◌, T, leb, length, replicate}
use Rattle.std.proofs.Common.{◌∙◌, arith}
use Rattle.std.proofs.Math.Facts.{leb_yes}
use Rattle.std.specs.Int.Count.{count_leading_zeros}
use Rattle.lists.specs.Lists.{joined}
use Rattle.lists.specs.Run.{run}
use Rattle.utf8.specs.Utf8.{char_len, second_low, second_high, is_char, chars, utf8}
use Rattle.lists.specs.CutBy.{cut_after, cut_by}
use Rattle.letter_case.specs.LetterCase.{bytes, lower, same_any_case}
use Rattle.cut.specs.Cut.{cut}
use Rattle.word_spelling.specs.Spelling.{bare, spell_byte, spell}
use Rattle.base64_digits.specs.Base64.{digit64, in_base64}
use Rattle.row.specs.declared.Encoding.TheVariants.{Q}
use Rattle.row.specs.Word.{word}
use Rattle.row.specs.Row.{runs, chosen, lines, row_in, row, runs_after, lines_after, row_after_in}
use Rattle.envelope.specs.Envelope.{lines as envelope_lines, line_text, ended_fault, fault_of, fault_number, counted, checked_from, checked, texts, orcpt_from, orcpt_line, written_ended, written_of, written, mail_of, mail_replacement, only_rcpt_of, rcpt_replacement}
use Rattle.header_line.specs.Lines.{checked_lines, line_byte, name_byte, name_len, named, continuation, well_formed, line_ok, lines_of, lines_from}
use Rattle.line.specs.Line.{blank, crlf, line_len}
use Rattle.address.specs.Address.{later, byte_then, scan_then, is_atext, is_atom_byte, is_quoted_byte, is_literal_byte, dot_atom_from, dot_atom_scan, quoted_from, quoted_scan, literal_from, literal_scan, domain_scan, local_scan, address_scan, is_address, is_ascii_address}
use Rattle.xtext.specs.Xtext.{is_xchar, is_hexchar, unit_len, unit_byte, decoding_after, decoding, is_xtext, decoded, is_alt_address}
use Rattle.hex_digit.specs.Hex.{hex_digit, is_hex_digit, hex_value}
use Rattle.envelope_line.specs.EnvelopeLine.{verb, has_verb, path_scan, path_len, path, has_path, tail, well_formed as well_formed_line, value_fault, alt_fault, line_fault, orcpt_fault, new_path, without_alt, written_line, replacement}
use Rattle.header.specs.Fields.{fold, field_len, fields_of, name_of, value_of, unfolded_after, trimmed, text_of, line_count}
use Rattle.header_name.specs.Names.{groups, among, other_commented, other_kind, kind_among, kind_of}
use Rattle.field_method.specs.FieldMethod.{method_of}
use Rattle.field.specs.Field.{labelled_field, prefix, encoded_field}
use Rattle.outgoing_field.specs.Fate.{holds, method_written, method_fate, fate_of, segments_of, field_segments, header_segments, is_held, held_from, held_of}
use Rattle.encoded_word.specs.Segments.{rendered}
use Rattle.rules.specs.declared.Rules.TheVariants.{Spool}
use Rattle.call.specs.OutgoingHeader.{new_field, new_fields, outgoing_segments, outgoing_header}
use Rattle.outgoing_header.specs.HeaderOutcome.{of_size, of_lines, of_held, of_room, number_of as header_number, place_of as header_place}
use Rattle.call.specs.Outcome.{number_of, place_of, over, of_envelope, of_header, of_orcpt, first_of, verdict, Outcome, outcome_of, outcome}
use Rattle.call.proofs.OutputLaws.{of_input, both_fit, envelope_short, header_short}
use Rattle.parameter.specs.Parameter.{params, spaced, is_keyword_byte, keyword_len, keyword, has_value, value, is_orcpt, is_alt, is_value_byte, is_param, alts, alts_ok, alt, alt_place, orcpt_clean}

-- a case and its answer
pub data Case : Type 0 where
  -- a text; for each of its words in Q alone, how many characters it holds, and its length between opening and closing
  cuts_to : List ℕ → List (ℕ × ℕ) → Case
  -- an envelope and a header that the call refuses, whatever the buffers: the number and the place
  refused : List ℕ → List ℕ → ℕ → ℕ → Case
  -- an envelope and a header that it takes, where each buffer has 1,000 bytes or more
  taken : List ℕ → List ℕ → Case
  -- an envelope and a header that it takes where the buffers have these lengths or more, which it answers; where the envelope's has less 7 at that
  -- length, and else where the header's has less 8 at that length
  needs : List ℕ → List ℕ → ℕ → ℕ → Case

-- `é`
abbrev é : List ℕ
é = 195 ∷ 169 ∷ []

-- U+1F4A9, a character of four bytes
abbrev four : List ℕ
four = 240 ∷ 159 ∷ 146 ∷ 169 ∷ []

-- a character so many times
abbrev times : ℕ → List ℕ → List ℕ
times n c = joined (replicate n c)

-- CRLF
abbrev end : List ℕ
end = 13 ∷ 10 ∷ []

-- an envelope of one MAIL line, with this path and tail, and one RCPT line
abbrev pub mailed : List ℕ → List ℕ → List ℕ
mailed path tail = bytes "MAIL FROM:<" ++ (path ++ (62 ∷ (tail ++ (end ++ (bytes "RCPT TO:<b@example.net>" ++ end)))))

-- a header of one field with a name of so many bytes
abbrev pub header_named : ℕ → List ℕ
header_named n = replicate n 97 ++ (58 ∷ end)

-- the whole case
abbrev pub whole_envelope : List ℕ
whole_envelope = mailed (é ++ bytes "@example.org") (bytes " ALT-ADDRESS=e+2Bx@example.org")

abbrev pub whole_header : List ℕ
whole_header = bytes "Subject: " ++ (é ++ (end ++ (bytes "X-Note: ok" ++ end)))

-- the cases marked P
abbrev pub cases : List Case
cases =
    -- "ten `é` then `abc`: 63 characters, one word."
    Case.cuts_to (times 10 é ++ bytes "abc") ((13, 63) ∷ [])
    -- "eleven `é`: two words."
    ∷ Case.cuts_to (times 11 é) ((10, 60) ∷ (1, 6) ∷ [])
    -- "`abcd` then ten `é`: the second word holds one `é`."
    ∷ Case.cuts_to (bytes "abcd" ++ times 10 é) ((13, 58) ∷ (1, 6) ∷ [])
    -- "six four-byte characters: five, then one."
    ∷ Case.cuts_to (times 6 four) ((5, 60) ∷ (1, 12) ∷ [])
    -- "ALT-ADDRESS `a+0D+0Ab@x`: 4."
    ∷ Case.refused (mailed (é ++ bytes "@x") (bytes " ALT-ADDRESS=a+0D+0Ab@x")) [] 4 0
    -- "`+2b`: 4.", by itself and in an address that uppercase digits would make ASCII
    ∷ Case.refused (mailed (é ++ bytes "@x") (bytes " ALT-ADDRESS=+2b")) [] 4 0
    ∷ Case.refused (mailed (é ++ bytes "@x") (bytes " ALT-ADDRESS=a+2bb@x")) [] 4 0
    -- "ALT-ADDRESS beside an ASCII path: 4."
    ∷ Case.refused (mailed (bytes "a@x") (bytes " ALT-ADDRESS=b@x")) [] 4 0
    -- "non-ASCII path alone: 3."
    ∷ Case.refused (mailed (é ++ bytes "@x") []) [] 3 0
    -- "empty envelope: 2 at 0."
    ∷ Case.refused [] [] 2 0
    -- "MAIL with no RCPT: 2 at 1."
    ∷ Case.refused (bytes "MAIL FROM:<a@x>" ++ end) [] 2 1
    -- "name of 76 bytes taken; 77 is 5."
    ∷ Case.taken (mailed (bytes "a@x") []) (header_named 76)
    ∷ Case.refused (mailed (bytes "a@x") []) (header_named 77) 5 0
    -- the whole case, worked out again by request 10, not marked P: `0 54 140`; a room of 53 for the envelope gives 7, place 54, one of 139 for
    -- the header 8, place 140
    ∷ Case.needs whole_envelope whole_header 54 140
    ∷ []
