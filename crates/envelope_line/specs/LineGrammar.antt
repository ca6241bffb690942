-- The paper's grammar of an envelope line, without its CRLF, as rules that make texts (section "Envelope lines"); which answer a line
-- gets, and what is written for it, by its parts. LineGrammarLaws.antt proves that `line_fault` and `written_line` are these.
--
-- `mail` says whether the line stands where the MAIL line does; every other line is due to be a RCPT line.
use Rattle.std.specs.Prelude.{◌≡◌, Bool, true, false, not, ◌&&◌, List, [], ◌∷◌, ◌++◌, ℕ, suc, ◌+◌, ◌≤◌, T, eqb, length, get_or}
use Rattle.std.proofs.Math.Option.{Option, none, some}
use Rattle.lists.specs.Lists.{all, nonempty}
use Rattle.lists.specs.Byte.{is_ascii}
use Rattle.utf8.specs.Utf8.{utf8}
use Rattle.letter_case.specs.LetterCase.{bytes, same_any_case}
use Rattle.rules.specs.declared.Rules.{Rules}
use Rattle.rules.specs.Rules.{allows_alternative}
use Rattle.address.specs.Grammar.{Address}
use Rattle.xtext.specs.Grammar.{AltAddress}
use Rattle.parameter.specs.Parameter.{is_keyword_byte, is_value_byte}
use Rattle.envelope_line.specs.EnvelopeLine.{verb}

-- "A path is an address; MAIL may have an empty one, and RCPT may have the bare word Postmaster in any case."
pub data Path : Bool → List ℕ → Type 0 where
  address : {mail : Bool} {path : List ℕ} → Address path → Path mail path
  empty : Path true []
  postmaster : {path : List ℕ} → T (same_any_case (bytes "Postmaster") path) → Path false path

-- "a keyword (letters, digits, hyphens, first not a hyphen)", other than ALT-ADDRESS. "Keywords compare in any case." A hyphen is 45.
abbrev pub is_other_keyword : List ℕ → Bool
is_other_keyword k = nonempty k && all is_keyword_byte k && not (eqb (get_or k 0 0) 45) && not (same_any_case (bytes "ALT-ADDRESS") k)

-- what may stand after the keyword k and `=`: "a value of one or more bytes 33 to 126 other than `=`. Only ORCPT may also hold non-ASCII in its value."
abbrev pub is_value : List ℕ → List ℕ → Bool
is_value k v = nonempty v && all (is_value_byte (same_any_case (bytes "ORCPT") k)) v

-- parameters other than ALT-ADDRESS, "each after one space" (32): "a keyword .., and maybe `=` with a value"; `=` is 61
pub data Others : List ℕ → Type 0 where
  end : Others []
  bare : {more : List ℕ} (k : List ℕ) → T (is_other_keyword k) → Others more → Others (32 ∷ (k ++ more))
  valued : {more : List ℕ} (k v : List ℕ) → T (is_other_keyword k) → T (is_value k v) → Others more → Others (32 ∷ (k ++ (61 ∷ (v ++ more))))

-- What follows the path's `>`, by the value of ALT-ADDRESS, if any: "a second ALT-ADDRESS, an ALT-ADDRESS without a value .. are
-- malformed".
pub data Tail : Option (List ℕ) → List ℕ → Type 0 where
  plain : {t : List ℕ} → Others t → Tail none t
  with_alt : {before v after : List ℕ} (k : List ℕ) → Others before → T (same_any_case (bytes "ALT-ADDRESS") k) → T (is_value k v) → Others after
      → Tail (some v) (before ++ (32 ∷ (k ++ (61 ∷ (v ++ after)))))

-- "The form is `MAIL FROM:<path>` or `RCPT TO:<path>`, verbs in any case, then parameters", "at most 998 bytes", UTF-8; `>` is 62.
pub record Line (mail : Bool) (path : List ℕ) (alternative : Option (List ℕ)) (line : List ℕ) : Type 0 where
  pub front : List ℕ
  pub tail : List ℕ
  pub is : line ≡ front ++ (path ++ (62 ∷ tail))
  pub short : length line ≤ 998
  pub is_utf8 : T (utf8 line)
  pub is_front : T (same_any_case (verb mail) front)
  pub is_path : Path mail path
  pub is_tail : Tail alternative tail

-- How many bytes of a tail stand before the value of ALT-ADDRESS: past its space, its keyword and `=`.
unfoldable pub value_place : {v tail : List ℕ} → Tail (some v) tail → ℕ
value_place (Tail.with_alt {before} k o a x q) = length before + (length k + 2)

-- "that parameter goes with the space before it": the parameters that stay
unfoldable pub others_of : {v tail : List ℕ} → Tail (some v) tail → List ℕ
others_of (Tail.with_alt {before} {after} k o a x q) = before ++ after

-- The byte of a line at which the value of ALT-ADDRESS starts.
abbrev pub value_byte : {mail : Bool} {path v line : List ℕ} → Line mail path (some v) line → ℕ
value_byte {path} l = length l.front + (length path + suc (value_place l.is_tail))

-- The refusals of a well-formed line, and the byte that each points to: 3 "path not ASCII, no ALT-ADDRESS", "the start of the path"; 4 "ALT-ADDRESS beside an
-- ASCII path, or not xtext of an ASCII address", 10 "ALT-ADDRESS in a current message", "the start of the ALT-ADDRESS value".
pub data LineRefused (rules : Rules) (mail : Bool) (line : List ℕ) : ℕ → ℕ → Type 0 where
  no_alternative : {path : List ℕ} (l : Line mail path none line) → T (not (all is_ascii path)) → LineRefused rules mail line 3 (length l.front)
  beside_ascii : {path v : List ℕ} (l : Line mail path (some v) line) → T (allows_alternative rules) → T (all is_ascii path) → LineRefused rules mail line 4 (value_byte l)
  no_address : {path v : List ℕ} (l : Line mail path (some v) line) → T (allows_alternative rules) → ((address : List ℕ) → AltAddress v address → ⊥) → LineRefused rules mail line 4 (value_byte l)
  retired : {path v : List ℕ} (l : Line mail path (some v) line) → T (not (allows_alternative rules)) → LineRefused rules mail line 10 (value_byte l)

-- A line that is not refused: its tail, what is written for it, and the text `<old <new>>` where its path is replaced, else none. "A non-ASCII path is replaced by the
-- decoded ALT-ADDRESS, and that parameter goes with the space before it. .. Nothing else changes." `<` is 60, space 32.
pub data Written (rules : Rules) (mail : Bool) (line : List ℕ) : List ℕ → List ℕ → List ℕ → Type 0 where
  copied : {path : List ℕ} (l : Line mail path none line) → T (all is_ascii path) → Written rules mail line l.tail line []
  replaced : {path v new : List ℕ} (l : Line mail path (some v) line) → T (allows_alternative rules) → T (not (all is_ascii path)) → AltAddress v new
      → Written rules mail line l.tail (l.front ++ (new ++ (62 ∷ others_of l.is_tail))) (60 ∷ (path ++ (32 ∷ 60 ∷ (new ++ (62 ∷ 62 ∷ [])))))
