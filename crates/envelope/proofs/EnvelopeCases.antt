-- Cases of what no law and no grammar says of an envelope: the first line with an ORCPT at fault, and the texts for the header. One
-- table under one theorem; other cases are run by the program envelope_cases.
use Rattle.std.specs.Prelude.{◌≡◌, refl, List, [], ◌∷◌, ◌++◌, ℕ, Option, Some, None}
use Rattle.lists.specs.Run.{run}
use Rattle.lists.specs.CutBy.{cut_by, cut_after}
use Rattle.letter_case.specs.LetterCase.{bytes, lower, same_any_case}
use Rattle.line.specs.Line.{crlf, line_len}
use Rattle.address.specs.Address.{later, byte_then, scan_then, is_atext, is_atom_byte, is_quoted_byte, is_literal_byte, dot_atom_from, dot_atom_scan, quoted_from, quoted_scan, literal_from, literal_scan, domain_scan, local_scan, address_scan}
use Rattle.xtext.specs.Xtext.{is_xchar, is_hexchar, unit_len, unit_byte, decoding_after, decoding, decoded}
use Rattle.hex_digit.specs.Hex.{is_hex_digit, hex_value}
use Rattle.envelope_line.specs.EnvelopeLine.{verb, path_scan, path_len, path, tail, orcpt_fault, new_path, replacement}
use Rattle.parameter.specs.Parameter.{params, is_keyword_byte, keyword_len, keyword, value, is_orcpt, is_alt, alts, alt, orcpt_clean}
use Rattle.envelope.specs.Envelope.{lines, line_text, texts, orcpt_from, orcpt_line, mail_of, mail_replacement, only_rcpt_of, rcpt_replacement}

-- `é`
abbrev é : List ℕ
é = 195 ∷ 169 ∷ []

-- lines, each with its CRLF
abbrev ended : List (List ℕ) → List ℕ
ended [] = []
ended (l ∷ ls) = l ++ (13 ∷ 10 ∷ ended ls)

-- a case and its answer
pub data Case : Type 0 where
  -- an envelope, and its first line with an ORCPT at fault
  orcpt : List ℕ → Option ℕ → Case
  -- an envelope, and the texts for the header
  replaces : List ℕ → List ℕ → List ℕ → Case

-- what a case says
abbrev pub Right : Case → Type 0
Right (orcpt e line) = orcpt_line e ≡ line
Right (replaces e mail rcpt) = (mail_replacement e ≡ mail) × (rcpt_replacement e ≡ rcpt)

abbrev pub AllRight : List Case → Type 0
AllRight [] = Unit {0}
AllRight (c ∷ cs) = Right c × AllRight cs

-- a MAIL line and a RCPT line without fault
abbrev mail : List ℕ
mail = bytes "MAIL FROM:<a@b>"

abbrev rcpt : List ℕ
rcpt = bytes "RCPT TO:<b@c>"

-- a MAIL line whose path is not ASCII, with a tail
abbrev high : List ℕ → List ℕ
high tail = bytes "MAIL FROM:<" ++ (é ++ (bytes "@x>" ++ tail))

abbrev high_rcpt : List ℕ → List ℕ
high_rcpt tail = bytes "RCPT TO:<" ++ (é ++ (bytes "@x>" ++ tail))

-- an envelope with one given MAIL line, or one given RCPT line
abbrev mailed : List ℕ → List ℕ
mailed l = ended (l ∷ rcpt ∷ [])

abbrev sent : List ℕ → List ℕ
sent l = ended (mail ∷ l ∷ [])

abbrev pub cases : List Case
cases =
    -- ORCPT
    Case.orcpt (sent rcpt) None
    ∷ Case.orcpt (ended (mail ∷ rcpt ∷ (bytes "RCPT TO:<b@c> X Orcpt=" ++ é) ∷ [])) (Some 2)
    ∷ Case.orcpt (mailed (bytes "MAIL FROM:<a@b> ORCPT=a ORCPT=" ++ é)) (Some 0)
    -- for the header
    ∷ Case.replaces (mailed (high (bytes " ALT-ADDRESS=a+2Bb@x"))) (60 ∷ (é ++ bytes "@x <a+b@x>>")) []
    ∷ Case.replaces (ended (mail ∷ high_rcpt (bytes " ALT-ADDRESS=a@x") ∷ [])) [] (60 ∷ (é ++ bytes "@x <a@x>>"))
    ∷ Case.replaces (ended (mail ∷ high_rcpt (bytes " ALT-ADDRESS=a@x") ∷ rcpt ∷ [])) [] []
    ∷ []

pub cases_right : AllRight cases
unfolding bytes lower same_any_case crlf line_len later byte_then scan_then is_atext is_atom_byte is_quoted_byte is_literal_byte dot_atom_from dot_atom_scan quoted_from quoted_scan literal_from literal_scan domain_scan local_scan address_scan run is_xchar is_hex_digit hex_value is_hexchar unit_len unit_byte decoding_after decoding decoded verb path_scan path_len path tail params is_keyword_byte keyword_len keyword value is_orcpt is_alt alts alt orcpt_clean orcpt_fault new_path replacement cut_by cut_after lines line_text texts orcpt_from orcpt_line mail_of mail_replacement only_rcpt_of rcpt_replacement
cases_right = (refl, (refl, (refl, ((refl, refl), ((refl, refl), ((refl, refl), tt))))))
