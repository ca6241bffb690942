-- One line of an envelope, without its CRLF: its parts, its fault, and what is written for it.
--
-- `mail` says whether the line stands where the MAIL line does; every other line is due to be a RCPT line. The parts of a line are
-- defined for every line, and mean what their names say where the line is well-formed.
use Rattle.std.specs.Prelude.{Bool, true, false, not, cond, ◌&&◌, List, [], ◌∷◌, ◌++◌, ℕ, suc, ◌+◌, eqb, leb, length, take, drop, get_or, Result, Ok, Err, ⊤}
use Rattle.lists.specs.Lists.{all}
use Rattle.lists.specs.Byte.{is_ascii}
use Rattle.utf8.specs.Utf8.{utf8}
use Rattle.letter_case.specs.LetterCase.{bytes, same_any_case}
use Rattle.rules.specs.declared.Rules.{Rules}
use Rattle.rules.specs.Rules.{allows_alternative}
use Rattle.address.specs.Address.{address_scan}
use Rattle.xtext.specs.Xtext.{decoded, is_alt_address}
use Rattle.parameter.specs.Parameter.{params, spaced, value, is_param, alts, alts_ok, alt, alt_place, orcpt_clean}
use Rattle.envelope_line.specs.declared.Fault.{Fault}
use Rattle.envelope_line.specs.declared.Fault.TheVariants.{Malformed, NoAlternative, BadAlternative, RetiredAlternative}

-- ---- verb

-- "The form is `MAIL FROM:<path>` or `RCPT TO:<path>`": what stands before the path
unfoldable pub verb : Bool → List ℕ
verb true = bytes "MAIL FROM:<"
verb false = bytes "RCPT TO:<"

abbrev pub verb_len : Bool → ℕ
verb_len true = 11
verb_len false = 9

-- "verbs in any case"
unfoldable pub has_verb : Bool → List ℕ → Bool
has_verb mail line = same_any_case (verb mail) (take (verb_len mail) line)

-- ---- path

-- "A path is an address; MAIL may have an empty one, and RCPT may have the bare word Postmaster in any case." At the front of what
-- follows the verb; `>` (62) closes the path.
unfoldable pub path_scan : Bool → List ℕ → Result ℕ ℕ
path_scan true s = cond (eqb (get_or s 0 0) 62) (Ok 0) (address_scan s)
path_scan false s = cond (same_any_case (bytes "Postmaster>") (take 11 s)) (Ok 10) (address_scan s)

abbrev pub scan_end : Result ℕ ℕ → ℕ
scan_end (Ok n) = n
scan_end (Err n) = n

abbrev pub is_to : Result ℕ ℕ → Bool
is_to (Ok n) = true
is_to (Err n) = false

unfoldable pub path_len : Bool → List ℕ → ℕ
path_len mail line = scan_end (path_scan mail (drop (verb_len mail) line))

unfoldable pub path : Bool → List ℕ → List ℕ
path mail line = take (path_len mail line) (drop (verb_len mail) line)

-- there is a path, and `>` after it
unfoldable pub has_path : Bool → List ℕ → Bool
has_path mail line = is_to (path_scan mail (drop (verb_len mail) line)) && eqb (get_or line (verb_len mail + path_len mail line) 0) 62

-- what follows the `>`
unfoldable pub tail : Bool → List ℕ → List ℕ
tail mail line = drop (verb_len mail + path_len mail line + 1) line

-- ---- the fault of a line, or `Ok` where it has none

-- "at most 998 bytes", UTF-8, verb, path, parameters
unfoldable pub well_formed : Bool → List ℕ → Bool
well_formed mail line =
    leb (length line) 998
    && utf8 line
    && has_verb mail line
    && has_path mail line
    && spaced (tail mail line)
    && all is_param (params (tail mail line))
    && alts_ok (alts (params (tail mail line)))

-- 4: "ALT-ADDRESS beside an ASCII path, or not xtext of an ASCII address". 10: "ALT-ADDRESS in a current message, .. in place of 4". Given
-- whether the path is ASCII, and the value of ALT-ADDRESS. The empty path and Postmaster are ASCII.
unfoldable pub value_fault : Rules → Bool → List ℕ → Result ⊤ Fault
value_fault rules ascii v = cond (allows_alternative rules) (cond (not ascii && is_alt_address v) (Ok tt) (Err BadAlternative)) (Err RetiredAlternative)

-- 3: "path not ASCII, no ALT-ADDRESS". Given the ALT-ADDRESS parameters.
unfoldable pub alt_fault : Rules → Bool → List (List ℕ) → Result ⊤ Fault
alt_fault rules ascii [] = cond ascii (Ok tt) (Err NoAlternative)
alt_fault rules ascii (p ∷ ps) = value_fault rules ascii (value p)

-- "the lowest number within one line"; 10 "on its line after 2"
unfoldable pub line_fault : Rules → Bool → List ℕ → Result ⊤ Fault
line_fault rules mail line = cond (well_formed mail line) (alt_fault rules (all is_ascii (path mail line)) (alts (params (tail mail line)))) (Err Malformed)

-- "an ORCPT carries non-ASCII"
unfoldable pub orcpt_fault : Bool → List ℕ → Bool
orcpt_fault mail line = not (all orcpt_clean (params (tail mail line)))

-- ---- what is written for a line

-- the new path: "the decoded ALT-ADDRESS"
unfoldable pub new_path : Bool → List ℕ → List ℕ
new_path mail line = decoded (value (alt (params (tail mail line))))

-- "that parameter goes with the space before it"
unfoldable pub without_alt : List ℕ → List ℕ
without_alt t = let ps = params t in take (alt_place ps) t ++ drop (alt_place ps + suc (length (alt ps))) t

-- "A non-ASCII path is replaced by the decoded ALT-ADDRESS, and that parameter goes with the space before it. .. Nothing else changes."
unfoldable pub written_line : Bool → List ℕ → List ℕ
written_line mail line =
    cond (all is_ascii (path mail line)) line (take (verb_len mail) line ++ (new_path mail line ++ (62 ∷ without_alt (tail mail line))))

-- "encoded words of `<old <new>>`, the new decoded": the text for the header where the path is replaced, and else none.
-- `<` is 60, space 32.
unfoldable pub replacement : Bool → List ℕ → List ℕ
replacement mail line =
    cond (all is_ascii (path mail line)) [] (60 ∷ (path mail line ++ (32 ∷ 60 ∷ (new_path mail line ++ (62 ∷ 62 ∷ [])))))
