-- The lines of a field that we write are well formed for the reader, and where it ends.
use Rattle.std.specs.Prelude.{◌≡◌, refl, Bool, true, false, not, ◌||◌, List, [], ◌∷◌, ◌++◌, ℕ, ◌+◌, ◌≤◌, ◌<◌, T, eqb, length, drop, get_or}
use Rattle.std.proofs.Common.{ap, sym, ◌∙◌, append_assoc, add-zero, arith, lt→ltb, length-append, ne_eqb}
use Rattle.std.proofs.lemmas.List.{get_or_at}
use Rattle.std.proofs.Math.Facts.{and_yes}
use Rattle.lists.specs.Lists.{all}
use Rattle.lists.specs.ListsLaws.{yes_true, all_append, all_weaken}
use Rattle.lists.specs.Byte.{within, is_ascii}
use Rattle.lists.specs.ByteLaws.{within_low, within_high, to_within}
use Rattle.lists.specs.Run.{run}
use Rattle.lists.specs.RunLaws.{run_past}
use Rattle.line.specs.Line.{blank, crlf, line_len, not_cr}
use Rattle.utf8.specs.Utf8.{utf8}
use Rattle.utf8.specs.Utf8Laws.{utf8_ascii}
use Rattle.row.specs.Row.{encodings}
use Rattle.row.specs.Layout.{Word, word_bytes, Reads}
use Rattle.row.specs.FieldRow.{OwnLines, SetAfter}
use Rattle.row.proofs.RoomsLaws.{AllProper, first_proper, rest_proper}
use Rattle.header_line.specs.Lines.{line_byte, name_byte, name_len, named_to, continuation, line_ok_to, lines_of}
use Rattle.header.specs.Fields.{fold, field_len}
use Rattle.header.specs.FieldLaws.{ends, len_cons, len_past}
use Rattle.header.specs.FieldShapeLaws.{line_not_cr}
use Rattle.downgraded_field.specs.Shown.{continues, is_formed}
use Rattle.downgraded_field.specs.FormedLaws.{lines_nil, lines_front, continues_front, formed_front}
use Rattle.reader_grammar.specs.FieldLinesLaws.{front_ok, front_after}
use Rattle.downgraded_row.specs.RowTurnsLaws.{printed, word_printed}

-- ---- bytes

-- a byte of a line that we write: the space, or 33 to 126
abbrev pub plain : ℕ → Bool
plain b = within 32 126 b

printed_plain : (b : ℕ) → T (printed b) → T (plain b)
printed_plain b t = to_within 32 126 b (omega (arith, within_low 33 126 b t)) (within_high 33 126 b t)

plain_line : (b : ℕ) → T (plain b) → T (line_byte b)
unfolding line_byte
plain_line b t =
    let h = within_low 32 126 b t in
    rw (ne_eqb b 0 (λ e. omega (arith, e)), ne_eqb b 10 (λ e. omega (arith, e)), ne_eqb b 13 (λ e. omega (arith, e))) tt

plain_ascii : (b : ℕ) → T (plain b) → T (is_ascii b)
plain_ascii b t = lt→ltb b 128 (omega (arith, within_high 32 126 b t))

plain_cr : (b : ℕ) → T (plain b) → T (not_cr b)
plain_cr b t = line_not_cr b (plain_line b t)

name_plain : (b : ℕ) → T (name_byte b) → T (plain b)
unfolding name_byte
name_plain b t = printed_plain b (and_yes (within 33 126 b) (not (eqb b 58)) t).0

word_plain : (w : Word) → Reads w → T (all plain (word_bytes w))
word_plain w r = all_weaken printed plain printed_plain (word_bytes w) (word_printed w r)

-- ---- a line, and what follows it

module _ (line rest : List ℕ) (t : T (all plain line)) where
  bytes : T (all line_byte line)
  bytes = all_weaken plain line_byte plain_line line t

  pub line_formed : (first : Bool) → 1 ≤ length line → length line ≤ 998 → T (continuation first line || named_to 87 line) → line_ok_to 87 first (line ++ (13 ∷ 10 ∷ rest)) ≡ true
  line_formed first some few start =
      let size = yes_true (within 1 998 (length line)) (to_within 1 998 (length line) some few) in
      let text = yes_true (utf8 line) (utf8_ascii line (all_weaken plain is_ascii plain_ascii line t)) in
      yes_true (line_ok_to 87 first (line ++ (13 ∷ 10 ∷ rest))) (front_ok line rest bytes first (rw (size, yes_true (all line_byte line) bytes, text) start))

  pub line_after_lem : drop (line_len (line ++ (13 ∷ 10 ∷ rest)) + 2) (line ++ (13 ∷ 10 ∷ rest)) ≡ rest
  line_after_lem = front_after line rest bytes

-- ---- the lines of words of their own

-- what stands after the CRLF that ends the line before
unfoldable pub later : {row : List ℕ} {ws : List Word} → OwnLines row ws → List ℕ
later OwnLines.none = []
later (OwnLines.line {row} {w} r o) = (32 ∷ word_bytes w) ++ (row ++ (13 ∷ 10 ∷ []))

pub later_is : {row : List ℕ} {ws : List Word} (o : OwnLines row ws) → row ++ (13 ∷ 10 ∷ []) ≡ 13 ∷ 10 ∷ later o
unfolding later
later_is OwnLines.none = refl
later_is (OwnLines.line {row} {w} r o) = append_assoc (13 ∷ 10 ∷ 32 ∷ word_bytes w) row (13 ∷ 10 ∷ [])

blank_space : blank 32 ≡ true
unfolding blank
blank_space = refl

starts_space : (line : List ℕ) → T (continuation false (32 ∷ line) || named_to 87 (32 ∷ line))
unfolding continuation blank
starts_space line = tt

pub later_formed : {row : List ℕ} {ws : List Word} (o : OwnLines row ws) → AllProper encodings 75 ws → T (all continues (lines_of (later o)))
unfolding later
later_formed OwnLines.none p = rw lines_nil tt
later_formed (OwnLines.line {row} {w} {ws} r o) p =
    let line : List ℕ = 32 ∷ word_bytes w in
    let bytes : T (all plain line) = word_plain w r in
    let x = line ++ (13 ∷ 10 ∷ later o) in
    let ok : line_ok_to 87 false x ≡ true = line_formed line (later o) bytes false (omega arith) (omega (arith, (first_proper p).short)) (starts_space (word_bytes w)) in
    let is : line ++ (row ++ (13 ∷ 10 ∷ [])) ≡ x = ap (λ (l : List ℕ). line ++ l) (later_is o) in
    let some : 0 < length x = omega (arith, length-append line (13 ∷ 10 ∷ later o)) in
    rw (is, lines_front x some, continues_front x, ok, line_after_lem line (later o) bytes, blank_space) (later_formed o (rest_proper p))

-- ---- the whole field

-- a label: a name of 1 to 87 bytes and its colon
pub record Label (label : List ℕ) : Type 0 where
  pub name : List ℕ
  pub is : label ≡ name ++ (58 ∷ [])
  pub bytes : T (all name_byte name)
  pub some : 1 ≤ length name
  pub few : length name ≤ 87

colon : name_byte 58 ≡ false
unfolding name_byte
colon = refl

name_run_lem : (label name rest : List ℕ) → label ≡ name ++ (58 ∷ []) → T (all name_byte name) → name_len (label ++ rest) ≡ length name
unfolding name_len run
name_run_lem label name rest e t = rw (e, append_assoc name (58 ∷ []) rest) (run_past name_byte name (58 ∷ rest) t ∙ rw colon (add-zero (length name)))

name_colon : (label name rest : List ℕ) → label ≡ name ++ (58 ∷ []) → get_or (label ++ rest) (length name) 0 ≡ 58
name_colon label name rest e = rw (e, append_assoc name (58 ∷ []) rest) (get_or_at name 58 rest 0 (length name) refl)

module _ {label : List ℕ} (l : Label label) where
  pub label_length : length label ≡ length l.name + 1
  label_length = ap length l.is ∙ length-append l.name (58 ∷ [])

  label_plain : T (all plain label)
  label_plain = rw l.is (all_append plain l.name (58 ∷ []) (all_weaken name_byte plain name_plain l.name l.bytes) tt)

  pub label_name : (rest : List ℕ) → name_len (label ++ rest) ≡ length l.name
  label_name rest = name_run_lem label l.name rest l.is l.bytes

  label_named : (rest : List ℕ) (first : Bool) → T (continuation first (label ++ rest) || named_to 87 (label ++ rest))
  label_named rest first =
      let there : get_or (label ++ rest) (length l.name) 0 ≡ 58 = name_colon label l.name rest l.is in
      let yes : named_to 87 (label ++ rest) ≡ true =
      rw (label_name rest, there, yes_true (within 1 87 (length l.name)) (to_within 1 87 (length l.name) l.some l.few)) refl in
      rw yes (either (continuation first (label ++ rest)))
    where
      either : (a : Bool) → T (a || true)
      either true = tt
      either false = tt

  -- the first line, with a word on it or not, before lines of words of their own
  first_formed : (more : List ℕ) {row : List ℕ} {ws : List Word} (o : OwnLines row ws) → T (all plain more) → length more ≤ 900 → AllProper encodings 75 ws
      → is_formed (label ++ (more ++ (row ++ (13 ∷ 10 ∷ [])))) ≡ true
  first_formed more {row} o t few p =
      let line = label ++ more in
      let x = line ++ (13 ∷ 10 ∷ later o) in
      let bytes : T (all plain line) = all_append plain label more label_plain t in
      let size : length line ≡ length label + length more = length-append label more in
      let ok : line_ok_to 87 true x ≡ true =
      line_formed line (later o) bytes true (omega (arith, label_length)) (omega (arith, label_length, l.few)) (label_named more true) in
      let is : label ++ (more ++ (row ++ (13 ∷ 10 ∷ []))) ≡ x = ap (λ (s : List ℕ). label ++ (more ++ s)) (later_is o) ∙ sym (append_assoc label more (13 ∷ 10 ∷ later o)) in
      let some : 0 < length x = omega (arith, length-append line (13 ∷ 10 ∷ later o)) in
      rw (is, formed_front x some, ok, line_after_lem line (later o) bytes) (yes_true (all continues (lines_of (later o))) (later_formed o p))

  pub field_formed : {column : ℕ} {row : List ℕ} {ws : List Word} {n : ℕ} → SetAfter 75 column row ws n → AllProper encodings 75 ws → is_formed (label ++ (row ++ (13 ∷ 10 ∷ []))) ≡ true
  field_formed (SetAfter.here {row} {w} {ws} r h o) p =
      rw (append_assoc (32 ∷ word_bytes w) row (13 ∷ 10 ∷ []))
      (first_formed (32 ∷ word_bytes w) o (word_plain w r) (omega (arith, (first_proper p).short)) (rest_proper p))
  field_formed (SetAfter.below {row} o) p = first_formed [] o tt (omega arith) p

-- ---- where the field ends

end_len : (rest : List ℕ) → blank (get_or rest 0 0) ≡ false → field_len (13 ∷ 10 ∷ rest) ≡ 2
unfolding ends crlf fold
end_len rest e = rw (len_cons 13 (10 ∷ rest), e)

fold_len : (rest : List ℕ) → blank (get_or rest 0 0) ≡ true → field_len (13 ∷ 10 ∷ rest) ≡ 2 + field_len rest
unfolding ends crlf fold
fold_len rest e = rw (len_cons 13 (10 ∷ rest), len_cons 10 rest, e) (omega arith)

past : (line rest : List ℕ) → T (all plain line) → field_len (line ++ rest) ≡ length line + field_len rest
past line rest t = len_past line rest (all_weaken plain not_cr plain_cr line t)

module _ (after : List ℕ) (fresh : blank (get_or after 0 0) ≡ false) where
  own_len : {row : List ℕ} {ws : List Word} → OwnLines row ws → field_len (row ++ (13 ∷ 10 ∷ after)) ≡ length row + 2
  own_len OwnLines.none = end_len after fresh
  own_len (OwnLines.line {row} {w} {ws} r o) =
      let line : List ℕ = 32 ∷ word_bytes w in
      let k = own_len o in
      let rest = row ++ (13 ∷ 10 ∷ after) in
      let joined : (13 ∷ 10 ∷ line ++ row) ++ (13 ∷ 10 ∷ after) ≡ 13 ∷ 10 ∷ (line ++ rest) = append_assoc (13 ∷ 10 ∷ line) row (13 ∷ 10 ∷ after) in
      rw (joined, fold_len (line ++ rest) blank_space, past line rest (word_plain w r), k) (omega (arith, length-append (13 ∷ 10 ∷ line) row))

  row_len : {column : ℕ} {row : List ℕ} {ws : List Word} {n : ℕ} → SetAfter 75 column row ws n → field_len (row ++ (13 ∷ 10 ∷ after)) ≡ length row + 2
  row_len (SetAfter.here {row} {w} {ws} r h o) =
      let line : List ℕ = 32 ∷ word_bytes w in
      let rest = row ++ (13 ∷ 10 ∷ after) in
      rw (append_assoc line row (13 ∷ 10 ∷ after), past line rest (word_plain w r), own_len o) (omega (arith, length-append line row))
  row_len (SetAfter.below o) = own_len o

  pub field_len_lem : {label : List ℕ} {column : ℕ} {row : List ℕ} {ws : List Word} {n : ℕ} → Label label → SetAfter 75 column row ws n
      → field_len ((label ++ (row ++ (13 ∷ 10 ∷ []))) ++ after) ≡ length (label ++ (row ++ (13 ∷ 10 ∷ [])))
  field_len_lem {label} {column} {row} l s =
      let is : (label ++ (row ++ (13 ∷ 10 ∷ []))) ++ after ≡ label ++ (row ++ (13 ∷ 10 ∷ after)) =
      append_assoc label (row ++ (13 ∷ 10 ∷ [])) after ∙ ap (λ (x : List ℕ). label ++ x) (append_assoc row (13 ∷ 10 ∷ []) after) in
      rw (is, past label (row ++ (13 ∷ 10 ∷ after)) (label_plain l), row_len s)
      (omega (arith, length-append label (row ++ (13 ∷ 10 ∷ [])), length-append row (13 ∷ 10 ∷ [])))
