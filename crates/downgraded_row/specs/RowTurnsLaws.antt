-- The words of a row that we write, as the reader finds them: each is a word of UTF-8, and what is shown of them is the text.
use Rattle.std.specs.Prelude.{◌≡◌, Bool, ◌&&◌, List, [], ◌∷◌, ◌++◌, ℕ, ◌<◌, T, length, drop}
use Rattle.std.proofs.Math.Path.{refl}
use Rattle.std.proofs.Math.Bool.{true, false}
use Rattle.std.proofs.Math.Option.{none, some}
use Rattle.std.proofs.Common.{arith, ne_eqb}
use Rattle.std.proofs.Math.Facts.{yes_and}
use Rattle.lists.specs.Lists.{all}
use Rattle.lists.specs.ListsLaws.{by_test, yes_true, no_false, all_append, all_weaken}
use Rattle.lists.specs.Byte.{within}
use Rattle.lists.specs.ByteLaws.{within_low, within_high, to_within, below}
use Rattle.lists.specs.Run.{run}
use Rattle.letter_case.specs.LetterCase.{bytes, lower, same_any_case}
use Rattle.line.specs.Line.{blank}
use Rattle.utf8.specs.Utf8.{utf8}
use Rattle.base64_digits.specs.Base64.{digit64}
use Rattle.base64_digits.specs.Grammar.{FromBase64}
use Rattle.word_spelling.specs.Spelling.{closing}
use Rattle.row.specs.declared.Encoding.{Encoding}
use Rattle.row.specs.declared.Encoding.TheVariants.{Q, B}
use Rattle.row.specs.Word.{opening_in}
use Rattle.row.specs.Row.{encodings}
use Rattle.row.specs.Layout.{any_case_value, Adds, AddsIn, Word, word_bytes, Reads, added_text}
use Rattle.row.specs.FieldRow.{OwnLines, SetAfter}
use Rattle.row.specs.Demand3.{Proper}
use Rattle.row.proofs.RoomsLaws.{AllProper, first_proper, rest_proper}
use Rattle.header.specs.FieldShape.{without_breaks}
use Rattle.word_reader.specs.Word.{is_word, added}
use Rattle.word_grammar.specs.WordGrammar.{Decodes}
use Rattle.word_grammar.specs.WordGrammarLaws.{decodes_added, decodes_number, decodes_word}
use Rattle.downgraded_field.specs.Shown.{spacing, solid, Turn, turns_of, turn_text, shown, word_number, turn_number, lowest}
use Rattle.downgraded_field.specs.ShownLaws.{turn_of, turns_nil}
use Rattle.reader_grammar.specs.TurnLaws.{Follows, run_stops, spacing_none, turn_cut}

-- ---- a word of ours

decodes_in : (e : Encoding) (standing added' : List ℕ) → AddsIn e standing added' → Decodes (opening_in e ++ (standing ++ closing)) (bytes "UTF-8") added'
unfolding bytes lower
decodes_in Q standing added' r = record { encoding = Q; letter = 81; standing = standing; is = refl; no_question = tt; any_case = refl; reads = r }
decodes_in B standing added' r = record { encoding = B; letter = 66; standing = standing; is = refl; no_question = tt; any_case = refl; reads = r }

module _ (w : Word) (r : Reads w) (p : Proper encodings 75 w) where
  decodes : Decodes (word_bytes w) (bytes "UTF-8") w.added
  decodes = decodes_in w.encoding w.standing w.added r

  pub word_is : is_word (word_bytes w) ≡ true
  word_is = decodes_word decodes

  pub word_adds : added (word_bytes w) ≡ w.added
  word_adds = decodes_added decodes

  same : same_any_case (bytes "UTF-8") (bytes "UTF-8") ≡ true
  unfolding bytes same_any_case lower
  same = refl

  pub word_number_lem : word_number (word_bytes w) ≡ 5
  unfolding word_number
  word_number_lem = rw (decodes_number decodes, same, word_adds, yes_true (utf8 w.added) p.whole) refl

-- ---- its bytes

-- 33 to 126
abbrev pub printed : ℕ → Bool
printed b = within 33 126 b

pub printed_solid : (b : ℕ) → T (printed b) → T (solid b)
unfolding spacing blank
printed_solid b t =
    let h = within_low 33 126 b t in
    rw (ne_eqb b 32 (λ e. omega (arith, e)), ne_eqb b 9 (λ e. omega (arith, e)), ne_eqb b 13 (λ e. omega (arith, e)), ne_eqb b 10 (λ e. omega (arith, e))) tt

none_some : {a : ℕ} → none ≡ some a → ⊥
none_some e = let z : ◌≡◌ {A = ℕ} 0 1 = cc in omega arith

hex_printed : (b v : ℕ) → any_case_value b ≡ some v → T (printed b)
unfolding any_case_value
hex_printed b v e =
    by_test (within 48 57 b) (λ t. to_within 33 126 b (omega (arith, within_low 48 57 b t)) (omega (arith, within_high 48 57 b t)))
    (λ t. by_test (within 65 70 b) (λ u. to_within 33 126 b (omega (arith, within_low 65 70 b u)) (omega (arith, within_high 65 70 b u)))
    (λ u. by_test (within 97 102 b) (λ v. to_within 33 126 b (omega (arith, within_low 97 102 b v)) (omega (arith, within_high 97 102 b v)))
    (λ v. absurd (none_some (rw (no_false (within 48 57 b) t, no_false (within 65 70 b) u, no_false (within 97 102 b) v) at e)))))

adds_printed : {s t : List ℕ} → Adds s t → T (all printed s)
adds_printed Adds.nothing = tt
adds_printed (Adds.underscore {standing} a) = yes_and true (all printed standing) tt (adds_printed a)
adds_printed (Adds.hex {first} {second} {high} {low} {standing} p q a) =
    yes_and (printed first) (printed second && all printed standing) (hex_printed first high p) (yes_and (printed second) (all printed standing) (hex_printed second low q) (adds_printed a))
adds_printed (Adds.itself {b} {standing} l h q e u a) = yes_and (printed b) (all printed standing) (to_within 33 126 b l h) (adds_printed a)

digit_printed : (d : ℕ) → d < 64 → T (printed (digit64 d))
unfolding digit64
digit_printed d h = below (λ k. printed (digit64 k)) 64 tt d h

base64_printed : {s t : List ℕ} → FromBase64 s t → T (all printed s)
base64_printed FromBase64.nothing = tt
base64_printed (FromBase64.four {a} {b} {c} {d} {standing} ha hb hc hd r) =
    yes_and (printed (digit64 a)) (all printed (digit64 b ∷ digit64 c ∷ digit64 d ∷ standing)) (digit_printed a ha)
    (yes_and (printed (digit64 b)) (all printed (digit64 c ∷ digit64 d ∷ standing)) (digit_printed b hb)
    (yes_and (printed (digit64 c)) (all printed (digit64 d ∷ standing)) (digit_printed c hc) (yes_and (printed (digit64 d)) (all printed standing) (digit_printed d hd) (base64_printed r))))
base64_printed (FromBase64.three {a} {b} {c} ha hb hc z) =
    yes_and (printed (digit64 a)) (all printed (digit64 b ∷ digit64 c ∷ 61 ∷ [])) (digit_printed a ha)
    (yes_and (printed (digit64 b)) (all printed (digit64 c ∷ 61 ∷ [])) (digit_printed b hb) (yes_and (printed (digit64 c)) (all printed (61 ∷ [])) (digit_printed c hc) tt))
base64_printed (FromBase64.two {a} {b} ha hb z) =
    yes_and (printed (digit64 a)) (all printed (digit64 b ∷ 61 ∷ 61 ∷ [])) (digit_printed a ha) (yes_and (printed (digit64 b)) (all printed (61 ∷ 61 ∷ [])) (digit_printed b hb) tt)

standing_printed : (e : Encoding) (s t : List ℕ) → AddsIn e s t → T (all printed s)
standing_printed Q s t a = adds_printed a
standing_printed B s t a = base64_printed a

opening_printed : (e : Encoding) → T (all printed (opening_in e))
opening_printed Q = tt
opening_printed B = tt

closing_printed : T (all printed closing)
closing_printed = tt

pub word_printed : (w : Word) → Reads w → T (all printed (word_bytes w))
word_printed w r =
    all_append printed (opening_in w.encoding) (w.standing ++ closing) (opening_printed w.encoding)
    (all_append printed w.standing closing (standing_printed w.encoding w.standing w.added r) closing_printed)

pub word_solid : (w : Word) → Reads w → T (all solid (word_bytes w))
word_solid w r = all_weaken printed solid printed_solid (word_bytes w) (word_printed w r)

opened_some : (e : Encoding) (rest : List ℕ) → 0 < length (opening_in e ++ rest)
opened_some Q rest = omega arith
opened_some B rest = omega arith

word_some : (w : Word) → 0 < length (word_bytes w)
word_some w = opened_some w.encoding (w.standing ++ closing)

-- ---- turns

-- every later word on its own line
own_follows : {row : List ℕ} {ws : List Word} → OwnLines row ws → Follows row
unfolding spacing blank
own_follows OwnLines.none = Follows.nothing
own_follows (OwnLines.line r o) = Follows.space tt

gap_spacing : T (all spacing (13 ∷ 10 ∷ 32 ∷ []))
unfolding spacing blank
gap_spacing = tt

-- the turn of a word of ours
module _ (gap : List ℕ) (w : Word) (r : Reads w) (p : Proper encodings 75 w) where
  turn_number_lem : turn_number (turn_of gap (word_bytes w)) ≡ 5
  unfolding turn_number
  turn_number_lem = rw (word_is w r p, word_number_lem w r p) refl

  turn_text_lem : turn_text true (turn_of gap (word_bytes w)) ≡ w.added
  unfolding turn_text
  turn_text_lem = rw (word_is w r p, word_adds w r p) refl

  turn_first : without_breaks gap ≡ [] → (after : Bool) → turn_text after (turn_of gap (word_bytes w)) ≡ w.added
  unfolding turn_text
  turn_first e true = rw (word_is w r p, word_adds w r p) refl
  turn_first e false = rw (word_is w r p, word_adds w r p, e) refl

-- what the reader makes of turns: the lowest refusal is none, and what is shown of them is this text
pub record ShownAs (after : Bool) (turns : List Turn) (text : List ℕ) : Type 0 where
  pub number : lowest turns ≡ 5
  pub text_is : shown after turns ≡ text

none_shown : (after : Bool) → ShownAs after [] []
unfolding lowest shown
none_shown after = record { number = refl; text_is = refl }

word_shown : (after : Bool) (gap : List ℕ) (w : Word) {turns : List Turn} {text : List ℕ} → Reads w → Proper encodings 75 w → turn_text after (turn_of gap (word_bytes w)) ≡ w.added → ShownAs true turns text
    → ShownAs after (turn_of gap (word_bytes w) ∷ turns) (w.added ++ text)
unfolding lowest shown
word_shown after gap w r p e s = record {
  number = rw (turn_number_lem gap w r p, s.number) refl;
  text_is = rw (e, word_is w r p, s.text_is) refl;
}

pub own_shown : {row : List ℕ} {ws : List Word} → OwnLines row ws → AllProper encodings 75 ws → ShownAs true (turns_of row) (added_text ws)
own_shown OwnLines.none p = rw turns_nil (none_shown true)
own_shown (OwnLines.line {row} {w} {ws} r o) p =
    let gap : List ℕ = 13 ∷ 10 ∷ 32 ∷ [] in
    rw (turn_cut gap (word_bytes w) row gap_spacing (word_solid w r) (word_some w) (own_follows o))
    (word_shown true gap w r (first_proper p) (turn_text_lem gap w r (first_proper p)) (own_shown o (rest_proper p)))

-- the first word straight at the front
no_breaks : without_breaks [] ≡ []
unfolding without_breaks
no_breaks = refl

pub front_shown : {row : List ℕ} {w : Word} {ws : List Word} → Reads w → OwnLines row ws → AllProper encodings 75 (w ∷ ws)
    → ShownAs false (turns_of (word_bytes w ++ row)) (added_text (w ∷ ws))
front_shown {row} {w} {ws} r o p =
    rw (turn_cut [] (word_bytes w) row tt (word_solid w r) (word_some w) (own_follows o))
    (word_shown false [] w r (first_proper p) (turn_first [] w r (first_proper p) no_breaks false) (own_shown o (rest_proper p)))

space_spacing : T (all spacing (32 ∷ []))
unfolding spacing blank
space_spacing = tt

none_run : run spacing [] ≡ 0
unfolding run
none_run = refl

-- a whole row set after a name, without its leading white space
pub row_shown : {column : ℕ} {row : List ℕ} {ws : List Word} {n : ℕ} → SetAfter 75 column row ws n → AllProper encodings 75 ws
    → ShownAs false (turns_of (drop (run spacing row) row)) (added_text ws)
row_shown (SetAfter.here {row} {w} {ws} r h o) p =
    let size : run spacing ((32 ∷ []) ++ (word_bytes w ++ row)) ≡ 1 =
    run_stops spacing (32 ∷ []) (word_bytes w ++ row) space_spacing (spacing_none (word_bytes w) row (word_some w) (word_solid w r)) in
    rw size (front_shown r o p)
row_shown (SetAfter.below OwnLines.none) p = rw (none_run, turns_nil) (none_shown false)
row_shown (SetAfter.below (OwnLines.line {row} {w} {ws} r o)) p =
    let size : run spacing ((13 ∷ 10 ∷ 32 ∷ []) ++ (word_bytes w ++ row)) ≡ 3 =
    run_stops spacing (13 ∷ 10 ∷ 32 ∷ []) (word_bytes w ++ row) gap_spacing (spacing_none (word_bytes w) row (word_some w) (word_solid w r)) in
    rw size (front_shown r o p)
