-- The refusals of an envelope by the grammar of its lines are those of the check, and the byte that each points to is that of the grammar.
use Rattle.std.proofs.Math.Path.{◌≡◌, ap, sym}
use Rattle.std.specs.Prelude.{refl, Bool, true, not, ℕ, suc, ◌+◌, ◌≤◌, ◌<◌, T, eqb, leb, ltb, Result, Ok, Err, ⊤, Some}
use Rattle.std.proofs.Common.{subst, ◌∙◌, T_not, length-append, length-drop, take_all, le-ltb}
use mathlib.Core.List.{List, [], ◌∷◌, ◌++◌, append_assoc}
use Rattle.std.proofs.Math.Option.{Option, some}
use native.Mathlib.Omega.{arith}
use Rattle.std.proofs.Math.ListN.{length, drop}
use Rattle.std.proofs.Math.Seq.{take-append-add, drop-append_seam}
use Rattle.std.proofs.Math.Facts.{not_T, and_yes, yes_and, leb_yes, yes_leb, ltb_yes, ltb_no}
use Rattle.lists.specs.Byte.{is_ascii}
use Rattle.lists.specs.Lists.{all}
use Rattle.lists.specs.ListsLaws.{by_test, yes_true, true_yes, no_false}
use Rattle.lists.specs.Run.{run}
use Rattle.lists.specs.RunLaws.{run_le}
use Rattle.line.specs.Line.{crlf, line_len, not_cr}
use Rattle.rules.specs.declared.Rules.{Rules}
use Rattle.line_stop.specs.FirstBad.{FirstBad, WithCrlf, MalformedAt}
use Rattle.line_stop.proofs.FirstBadLaws.{first_once, first_formed}
use Rattle.envelope_line.specs.declared.Fault.{Fault}
use Rattle.envelope_line.specs.declared.Fault.TheVariants.{Malformed, NoAlternative, BadAlternative, RetiredAlternative}
use Rattle.parameter.specs.Parameter.{params, keyword_len, alt, alt_place}
use Rattle.envelope_line.specs.EnvelopeLine.{verb_len, well_formed, line_fault, orcpt_fault}
use Rattle.envelope_line.specs.LineGrammar.{Line, value_byte, LineRefused}
use Rattle.envelope_line.proofs.FaultLaws.{well_formed_lem}
use Rattle.envelope_line.proofs.TailGrammarLaws.{value_place_lem, value_within}
use Rattle.envelope_line.proofs.LineGrammarLaws.{line_verb, line_tail, read_formed, formed_read, LineAnswer, unformed, line_answer, refused_fault, refused_exact as line_refused}
use Rattle.envelope_line.proofs.LineBytesLaws.{line_no_cr, written_no_cr, refused_no_cr, orcpt_exact as line_orcpt}
use Rattle.envelope.specs.Envelope.{lines, line_text, ended_fault, fault_of, fault_number, counted, checked_from, checked, texts, orcpt_from, orcpt_line, refused}
use Rattle.envelope.specs.EnvelopeDemand.{WellFormedAt, Any, Ascii, EnvelopeLines}
use Rattle.envelope.proofs.LinesLaws.{text_front, text_ended, front_ended, line_whole, texts_end, texts_at_lem}
use Rattle.envelope.proofs.CheckLaws.{by_fault, same_line, same_fault, checked_step, checked_stop}
use Rattle.envelope.proofs.EnvelopeDemandLaws.{LinesFront, line_between, line_len_lem, text_found, texts_found, fault_found, no_lines, checked_past, orcpt_past, refused_front, orcpt_front}
use Rattle.envelope_stop.specs.EnvelopeStop.{well_formed_at, line_stop}
use Rattle.envelope_stop.specs.EnvelopeStopLaws.{line_stop_lem, line_stop_alone}
use Rattle.offset.specs.Offset.{front_line, line_start, path_byte, alt_value_byte, orcpt_byte, line_at, fault_byte, fault_offset, orcpt_offset}

-- ---- the line after the first n

module _ (line rest : List ℕ) (h : T (all not_cr line)) where
  front_found : front_line (line ++ (13 ∷ 10 ∷ rest)) ≡ line ++ (13 ∷ 10 ∷ [])
  unfolding front_line
  front_found = rw (line_len_lem line rest h, take-append-add line (13 ∷ 10 ∷ rest) 2)

  start_found : (left : ℕ) → line_start (suc left) (line ++ (13 ∷ 10 ∷ rest)) ≡ length (line ++ (13 ∷ 10 ∷ [])) + line_start left rest
  unfolding line_start
  start_found left =
      let ended = line ++ (13 ∷ 10 ∷ []) in
      let after : drop (length ended) (line ++ (13 ∷ 10 ∷ rest)) ≡ rest = rw (append_assoc line (13 ∷ 10 ∷ []) rest) at (drop-append_seam ended rest) in
      rw (front_found, after)

module _ {rules : Rules} {Asked : List ℕ → Type 0} where
  start_past : {n : ℕ} {start out : List ℕ} {ts : List (List ℕ)} → EnvelopeLines rules Asked n start out ts → (left : ℕ) (rest : List ℕ)
      → line_start (n + left) (start ++ rest) ≡ length start + line_start left rest
  start_past EnvelopeLines.none left rest = let z : 0 + left ≡ left = omega arith in rw z (omega arith)
  start_past (EnvelopeLines.then {n} {before} {line} e few w a) left rest =
      let m : suc n + left ≡ n + suc left = omega arith in
      rw (m, line_between before line rest)
      (start_past e (suc left) (line ++ (13 ∷ 10 ∷ rest)) ∙ rw (start_found line rest (written_no_cr w) left) (omega (arith, length-append before (line ++ (13 ∷ 10 ∷ [])))))

  module _ {n : ℕ} {start out : List ℕ} {ts : List (List ℕ)} (k : EnvelopeLines rules Asked n start out ts) (rest : List ℕ) where
    start_is : line_start n (start ++ rest) ≡ length start
    unfolding line_start
    start_is = let z : n + 0 ≡ n = omega arith in rw z at (start_past k 0 rest) ∙ omega arith

    line_is : line_at n (start ++ rest) ≡ front_line rest
    unfolding line_at
    line_is = rw (start_is, drop-append_seam start rest)

    fault_offset_lem : (fault : Fault) → fault_offset (start ++ rest) fault n ≡ length start + fault_byte fault n (front_line rest)
    unfolding fault_offset
    fault_offset_lem fault = rw (start_is, line_is)

    orcpt_offset_lem : orcpt_offset (start ++ rest) n ≡ length start + orcpt_byte (eqb n 0) (line_text rest)
    unfolding orcpt_offset front_line
    orcpt_offset_lem = rw (start_is, line_is, text_front rest)

-- ---- the fault of the line at the front of what follows

front_refused : (rules : Rules) (n : ℕ) (rest : List ℕ) (fault : Fault) → 0 < length rest → fault_of rules n rest ≡ Err fault
    → checked_from rules n (lines rest) ≡ refused fault n
front_refused rules n rest fault there e = checked_stop rules rest 0 n (line_len rest) there (omega arith) e

-- no line before line n is refused from line n on
refused_le : (rules : Rules) (ls : List (List ℕ)) (n m : ℕ) (fault : Fault) → checked_from rules n ls ≡ refused fault m → n ≤ m
unfolding checked_from counted
refused_le rules [] n m fault p =
    by_test (ltb n 2)
    (λ u. let q : refused Malformed n ≡ refused fault m = rw (yes_true (ltb n 2) u) at p in let same : n ≡ m = same_line q in omega arith)
    (λ u. absurd (let q = rw (no_false (ltb n 2) u) at p in let z : ◌≡◌ {A = ℕ} 0 1 = cc in omega arith))
refused_le rules (line ∷ more) n m fault p =
    by_fault (fault_of rules n line)
    (λ f. omega (arith, refused_le rules more (suc n) m fault (rw f at p)))
    (λ here f. let q : refused here n ≡ refused fault m = rw f at p in let same : n ≡ m = same_line q in omega arith)

front_fault_lem : (rules : Rules) (n : ℕ) (rest : List ℕ) (fault : Fault) → 0 < length rest → checked_from rules n (lines rest) ≡ refused fault n → fault_of rules n rest ≡ Err fault
front_fault_lem rules n rest fault there p =
    by_fault (fault_of rules n rest)
    (λ f.
    let next = checked_step rules rest 0 n (line_len rest) there (omega arith) f in
    absurd (omega (arith, refused_le rules (lines (drop (line_len rest + 2) rest)) (n + 1) n fault (sym next ∙ p))))
    (λ here f. rw (← same_fault (sym (checked_stop rules rest 0 n (line_len rest) there (omega arith) f) ∙ p)) f)

-- ---- a malformed line

length_nil : (s : List ℕ) → length s ≤ 0 → s ≡ []
length_nil [] h = refl
length_nil (b ∷ s) h = absurd (omega arith)

-- well-formed lines at a number, by the tests and by the grammar
read_at : (n : ℕ) (line : List ℕ) → T (well_formed_at n line) → WellFormedAt n line
unfolding well_formed_at
read_at n line t =
    let b = and_yes (leb n 100) (well_formed (eqb n 0) line) t in
    record { few = leb_yes {a = n} {b = 100} b.0; formed = read_formed (eqb n 0) line b.1 }

at_read : (n : ℕ) (line : List ℕ) → WellFormedAt n line → T (well_formed_at n line)
unfolding well_formed_at
at_read n line w = yes_and (leb n 100) (well_formed (eqb n 0) line) (yes_leb {a = n} {b = 100} w.few) (formed_read w.formed)

stop_first : (n : ℕ) (rest : List ℕ) → FirstBad (WithCrlf (WellFormedAt n)) rest (line_stop n rest)
stop_first n rest = first_formed (read_at n) (at_read n) (line_stop_lem n rest)

-- no well-formed line stands at the front
abbrev NoneFormed : ℕ → List ℕ → Type 0
NoneFormed n rest = (line more : List ℕ) → WithCrlf (WellFormedAt n) line → rest ≡ line ++ more → ⊥

module _ (n : ℕ) (rest : List ℕ) (none : NoneFormed n rest) where
  front_unformed : crlf (drop (line_len rest) rest) ≡ true → WellFormedAt n (line_text rest) → ⊥
  front_unformed c w =
      let more = drop (line_len rest + 2) rest in
      none (line_text rest ++ (13 ∷ 10 ∷ [])) more (record { text = line_text rest; ends = refl; formed = w })
      (text_ended rest c ∙ sym (append_assoc (line_text rest) (13 ∷ 10 ∷ []) more))

  -- the byte is found in the line alone
  stop_alone : line_stop n (front_line rest) ≡ line_stop n rest
  unfolding front_line
  stop_alone =
      let c = crlf (drop (line_len rest) rest) in
      by_test c
      (λ t.
      let yes = yes_true c t in
      let u = not_T (well_formed_at n (line_text rest)) (λ w. front_unformed yes (read_at n (line_text rest) w)) in
      ap (line_stop n) (front_ended rest yes) ∙ sym (line_stop_alone n (line_text rest) (drop (line_len rest + 2) rest) u) ∙ ap (line_stop n) (sym (text_ended rest yes)))
      (λ t. ap (line_stop n) (take_all (line_len rest + 2) rest (omega (arith, line_whole rest (no_false c t)))))

  -- the line is told malformed
  unformed_fault : (rules : Rules) → fault_of rules n rest ≡ Err Malformed
  unfolding fault_of ended_fault
  unformed_fault rules =
      let c = crlf (drop (line_len rest) rest) in
      let text = line_text rest in
      by_test (leb n 100)
      (λ t.
      by_test c
      (λ u.
      let yes = yes_true c u in
      let few = leb_yes {a = n} {b = 100} t in
      let no = not_T (well_formed (eqb n 0) text) (λ w. front_unformed yes (record { few = few; formed = read_formed (eqb n 0) text w })) in
      rw (yes_true (leb n 100) t, yes) (unformed rules (eqb n 0) text no))
      (λ u. rw (yes_true (leb n 100) t, no_false c u)))
      (λ t. rw (no_false (leb n 100) t))

  unformed_refused : (rules : Rules) → (2 ≤ n → rest ≡ [] → ⊥) → checked_from rules n (lines rest) ≡ refused Malformed n
  unfolding checked_from counted fault_number
  unformed_refused rules missing =
      by_test (ltb 0 (length rest))
      (λ t. front_refused rules n rest Malformed (ltb_yes {a = 0} {b = length rest} t) (unformed_fault rules))
      (λ t.
      let nil : rest ≡ [] = length_nil rest (ltb_no {a = 0} {b = length rest} t) in
      by_test (ltb n 2)
      (λ u. rw (nil, no_lines, yes_true (ltb n 2) u))
      (λ u. absurd (missing (ltb_no {a = n} {b = 2} u) nil)))

-- a line that is told malformed is not well-formed
malformed_none : (rules : Rules) (n : ℕ) (rest : List ℕ) → checked_from rules n (lines rest) ≡ refused Malformed n → NoneFormed n rest
malformed_none rules n rest p line more w e =
    let text = w.text in
    let whole : rest ≡ text ++ (13 ∷ 10 ∷ more) = e ∙ rw w.ends (append_assoc text (13 ∷ 10 ∷ []) more) in
    let there : 0 < length rest = rw whole (omega (arith, length-append text (13 ∷ 10 ∷ more))) in
    let formed = w.formed.formed in
    let fault : line_fault rules (eqb n 0) text ≡ Err Malformed =
    sym (fault_found text more (line_no_cr formed.2) rules n w.formed.few) ∙ ap (fault_of rules n) (sym whole) ∙ front_fault_lem rules n rest Malformed there p in
    let never : LineAnswer rules (eqb n 0) text (Err Malformed) = rw fault at (line_answer rules (eqb n 0) text) in
    never formed

-- where none follows the second line an envelope passes
not_missing : (rules : Rules) (n : ℕ) (rest : List ℕ) (fault : Fault) → checked_from rules n (lines rest) ≡ refused fault n → 2 ≤ n → rest ≡ [] → ⊥
unfolding checked_from counted
not_missing rules n rest fault p h e =
    let q = rw (e, no_lines, le-ltb n 2 h) at p in
    let z : ◌≡◌ {A = ℕ} 0 1 = cc in
    omega arith

-- line n of an envelope is malformed, or missing
pub record MalformedFound (rules : Rules) (e : List ℕ) (n offset : ℕ) : Type 0 where
  pub front : LinesFront rules Any n e
  pub missing : 2 ≤ n → front.rest ≡ [] → ⊥
  pub at : MalformedAt (WellFormedAt n) front.start front.rest offset

malformed_offset : {rules : Rules} {n : ℕ} {start out : List ℕ} {ts : List (List ℕ)} → EnvelopeLines rules Any n start out ts → (rest : List ℕ) → NoneFormed n rest
    → fault_offset (start ++ rest) Malformed n ≡ length start + line_stop n rest
unfolding fault_byte
malformed_offset {n = n} k rest none = fault_offset_lem k rest Malformed ∙ rw (stop_alone n rest none)

pub envelope_malformed_found : (rules : Rules) (e : List ℕ) (n : ℕ) → checked rules e ≡ refused Malformed n → MalformedFound rules e n (fault_offset e Malformed n)
envelope_malformed_found rules e n p =
    let k = refused_front rules e Malformed n p in
    let here : checked_from rules n (lines k.rest) ≡ refused Malformed n = sym (checked_past k.lines k.rest) ∙ rw k.is at p in
    let none = malformed_none rules n k.rest here in
    record {
      front = k;
      missing = not_missing rules n k.rest Malformed here;
      at = record {
        malformed = none;
        byte = line_stop n k.rest;
        first = stop_first n k.rest;
        offset_is = ap (λ (x : List ℕ). fault_offset x Malformed n) k.is ∙ malformed_offset k.lines k.rest none;
      };
    }

pub malformed_exact : {rules : Rules} {e start rest out : List ℕ} {ts : List (List ℕ)} {n offset : ℕ} → e ≡ start ++ rest → EnvelopeLines rules Any n start out ts
    → (2 ≤ n → rest ≡ [] → ⊥) → MalformedAt (WellFormedAt n) start rest offset → (checked rules e ≡ refused Malformed n) × (offset ≡ fault_offset e Malformed n)
malformed_exact {rules} {rest = rest} {n = n} e k missing at =
    let none = at.malformed in
    (rw e (checked_past k rest ∙ unformed_refused n rest none rules missing), rw e (at.offset_is ∙ rw (first_once at.first (stop_first n rest)) (sym (malformed_offset k rest none))))

-- ---- a refused line

line_size : {mail : Bool} {p : List ℕ} {v : Option (List ℕ)} {line : List ℕ} (l : Line mail p v line) → length line ≡ length l.front + (length p + suc (length l.tail))
line_size {p = p} l = ap length l.is ∙ simp length-append

-- "the start of the path"
path_byte_is : {mail : Bool} {p : List ℕ} {v : Option (List ℕ)} {line : List ℕ} (l : Line mail p v line) → path_byte mail line ≡ length l.front
unfolding path_byte
path_byte_is {mail} {line = line} l = omega (arith, line_size l, line_verb l, length-drop (verb_len mail) line)

-- "the start of the ALT-ADDRESS value"
value_byte_is : {mail : Bool} {p v line : List ℕ} (l : Line mail p (some v) line) → alt_value_byte mail line ≡ value_byte l
unfolding alt_value_byte
value_byte_is {mail} {line = line} l =
    let t = l.tail in
    let n = alt_place (params t) + (keyword_len (alt (params t)) + 2) in
    rw (line_tail l) (omega (arith, line_size l, value_place_lem l.is_tail, value_within l.is_tail, length-drop n t))

-- the number and the byte of a refusal
refused_number : {rules : Rules} {mail : Bool} {line : List ℕ} {number byte : ℕ} (r : LineRefused rules mail line number byte) → number ≡ fault_number (refused_fault r)
unfolding refused_fault fault_number
refused_number (LineRefused.no_alternative l h) = refl
refused_number (LineRefused.beside_ascii l a h) = refl
refused_number (LineRefused.no_address l a h) = refl
refused_number (LineRefused.retired l n) = refl

refused_byte : {rules : Rules} (n : ℕ) {line : List ℕ} {number byte : ℕ} (r : LineRefused rules (eqb n 0) line number byte) (more : List ℕ)
    → fault_byte (refused_fault r) n (line ++ (13 ∷ 10 ∷ more)) ≡ byte
unfolding refused_fault fault_byte
refused_byte n {line = line} (LineRefused.no_alternative l h) more = rw (text_found line more (line_no_cr l)) (path_byte_is l)
refused_byte n {line = line} (LineRefused.beside_ascii l a h) more = rw (text_found line more (line_no_cr l)) (value_byte_is l)
refused_byte n {line = line} (LineRefused.no_address l a h) more = rw (text_found line more (line_no_cr l)) (value_byte_is l)
refused_byte n {line = line} (LineRefused.retired l a) more = rw (text_found line more (line_no_cr l)) (value_byte_is l)

-- line n of an envelope is refused by 3, 4 or 10
pub record RefusedFound (rules : Rules) (e : List ℕ) (n number offset : ℕ) : Type 0 where
  pub start : List ℕ
  pub line : List ℕ
  pub more : List ℕ
  pub out : List ℕ
  pub texts : List (List ℕ)
  pub byte : ℕ
  pub is : e ≡ start ++ (line ++ (13 ∷ 10 ∷ more))
  pub lines : EnvelopeLines rules Any n start out texts
  pub few : n ≤ 100
  pub refused : LineRefused rules (eqb n 0) line number byte
  pub offset_is : offset ≡ length start + byte

pub refused_exact : {rules : Rules} {e start line out : List ℕ} {ts : List (List ℕ)} {n number byte : ℕ} (more : List ℕ) → e ≡ start ++ (line ++ (13 ∷ 10 ∷ more))
    → EnvelopeLines rules Any n start out ts → n ≤ 100 → LineRefused rules (eqb n 0) line number byte
    → (fault : Fault) × (checked rules e ≡ refused fault n) × (number ≡ fault_number fault) × (length start + byte ≡ fault_offset e fault n)
refused_exact {rules} {start = start} {line = line} {n = n} {byte = byte} more e k few r =
    let fault = refused_fault r in
    let h = refused_no_cr r in
    let rest : List ℕ = line ++ (13 ∷ 10 ∷ more) in
    let there : 0 < length rest = omega (arith, length-append line (13 ∷ 10 ∷ more)) in
    let here = front_refused rules n rest fault there (fault_found line more h rules n few ∙ line_refused r) in
    let offset : fault_offset (start ++ rest) fault n ≡ length start + byte = fault_offset_lem k rest fault ∙ rw (front_found line more h, refused_byte n r []) in
    (fault, rw e (checked_past k rest ∙ here), refused_number r, rw e (sym offset))

-- the parts of what follows whose front line has a fault other than that it is malformed
record FrontLine (rules : Rules) (n : ℕ) (rest : List ℕ) (found : Result ⊤ Fault) : Type 0 where
  few : n ≤ 100
  is : rest ≡ line_text rest ++ (13 ∷ 10 ∷ drop (line_len rest + 2) rest)
  of_text : line_fault rules (eqb n 0) (line_text rest) ≡ found

front_line_lem : (rules : Rules) (n : ℕ) (rest : List ℕ) (found : Result ⊤ Fault) → (found ≡ Err Malformed → ⊥) → fault_of rules n rest ≡ found → FrontLine rules n rest found
unfolding fault_of ended_fault
front_line_lem rules n rest found other p =
    let c = crlf (drop (line_len rest) rest) in
    by_test (leb n 100)
    (λ t.
    let few = rw (yes_true (leb n 100) t) at p in
    by_test c
    (λ u. let yes = yes_true c u in record { few = leb_yes {a = n} {b = 100} t; is = text_ended rest yes; of_text = rw yes at few })
    (λ u. absurd (other (sym (rw (no_false c u) at few)))))
    (λ t. absurd (other (sym (rw (no_false (leb n 100) t) at p))))

-- such a line is refused
fault_refused : (rules : Rules) (mail : Bool) (line : List ℕ) (fault : Fault) → (fault ≡ Malformed → ⊥) → line_fault rules mail line ≡ Err fault
    → (byte : ℕ) × LineRefused rules mail line (fault_number fault) byte
unfolding fault_number
fault_refused rules mail line Malformed m p = absurd (m refl)
fault_refused rules mail line NoAlternative m p = rw p at (line_answer rules mail line)
fault_refused rules mail line BadAlternative m p = rw p at (line_answer rules mail line)
fault_refused rules mail line RetiredAlternative m p = rw p at (line_answer rules mail line)

-- something follows the lines before it
nonempty_rest : (rules : Rules) (n : ℕ) (rest : List ℕ) (fault : Fault) → (fault ≡ Malformed → ⊥) → checked_from rules n (lines rest) ≡ refused fault n → 0 < length rest
unfolding checked_from counted
nonempty_rest rules n rest fault other p =
    by_test (ltb 0 (length rest))
    (λ t. ltb_yes {a = 0} {b = length rest} t)
    (λ t.
    let nil : rest ≡ [] = length_nil rest (ltb_no {a = 0} {b = length rest} t) in
    by_test (ltb n 2)
    (λ u. let q : refused Malformed n ≡ refused fault n = rw (nil, no_lines, yes_true (ltb n 2) u) at p in let same : Malformed ≡ fault = same_fault q in absurd (other (sym same)))
    (λ u. absurd (not_missing rules n rest fault p (ltb_no {a = n} {b = 2} u) nil)))

module _ {rules : Rules} {fault : Fault} {n : ℕ} {start out : List ℕ} {ts : List (List ℕ)} (other : fault ≡ Malformed → ⊥)
    (k : EnvelopeLines rules Any n start out ts) (rest : List ℕ) (p : checked_from rules n (lines rest) ≡ refused fault n) where
  refused_here : RefusedFound rules (start ++ rest) n (fault_number fault) (fault_offset (start ++ rest) fault n)
  refused_here =
      let more = drop (line_len rest + 2) rest in
      let front = front_line_lem rules n rest (Err fault) (λ q. other (let same : fault ≡ Malformed = cc in same)) (front_fault_lem rules n rest fault (nonempty_rest rules n rest fault other p) p) in
      let r = fault_refused rules (eqb n 0) (line_text rest) fault other front.of_text in
      let whole : start ++ rest ≡ start ++ (line_text rest ++ (13 ∷ 10 ∷ more)) = ap (λ (l : List ℕ). start ++ l) front.is in
      let told = refused_exact more whole k front.few r.1 in
      let q : refused told.0 n ≡ refused fault n = sym told.1 ∙ checked_past k rest ∙ p in
      let same : told.0 ≡ fault = same_fault q in
      record {
        start = start;
        line = line_text rest;
        more = more;
        out = out;
        texts = ts;
        byte = r.0;
        is = whole;
        lines = k;
        few = front.few;
        refused = r.1;
        offset_is = ap (λ f. fault_offset (start ++ rest) f n) (sym same) ∙ sym told.3;
      }

pub envelope_refused : (rules : Rules) (e : List ℕ) (fault : Fault) (n : ℕ) → (fault ≡ Malformed → ⊥) → checked rules e ≡ refused fault n
    → RefusedFound rules e n (fault_number fault) (fault_offset e fault n)
envelope_refused rules e fault n other p =
    let k = refused_front rules e fault n p in
    let here : checked_from rules n (lines k.rest) ≡ refused fault n = sym (checked_past k.lines k.rest) ∙ rw k.is at p in
    subst (λ (x : List ℕ). RefusedFound rules x n (fault_number fault) (fault_offset x fault n)) (sym k.is)
    (refused_here other k.lines k.rest here)

-- ---- an ORCPT that carries non-ASCII

-- "the first non-ASCII byte of an ORCPT value"
orcpt_byte_is : {mail : Bool} {p : List ℕ} {v : Option (List ℕ)} {line : List ℕ} (l : Line mail p v line)
    → orcpt_byte mail line ≡ length l.front + (length p + suc (run is_ascii l.tail))
unfolding orcpt_byte
orcpt_byte_is l =
    let t = l.tail in
    rw (line_tail l) (omega (arith, line_size l, run_le is_ascii t, length-drop (run is_ascii t) t))

-- the first line of an envelope with such an ORCPT
pub record OrcptFound (rules : Rules) (e : List ℕ) (n offset : ℕ) : Type 0 where
  pub start : List ℕ
  pub line : List ℕ
  pub more : List ℕ
  pub path : List ℕ
  pub alternative : Option (List ℕ)
  pub out : List ℕ
  pub texts : List (List ℕ)
  pub l : Line (eqb n 0) path alternative line
  pub is : e ≡ start ++ (line ++ (13 ∷ 10 ∷ more))
  pub lines : EnvelopeLines rules Ascii n start out texts
  pub high : Ascii l.tail → ⊥
  pub offset_is : offset ≡ length start + (length l.front + (length path + suc (run is_ascii l.tail)))

pub orcpt_exact : {rules : Rules} {e start line path out : List ℕ} {alternative : Option (List ℕ)} {ts : List (List ℕ)} {n : ℕ} (more : List ℕ)
    → e ≡ start ++ (line ++ (13 ∷ 10 ∷ more)) → EnvelopeLines rules Ascii n start out ts → (l : Line (eqb n 0) path alternative line) → (Ascii l.tail → ⊥)
    → (orcpt_line e ≡ Some n) × (orcpt_offset e n ≡ length start + (length l.front + (length path + suc (run is_ascii l.tail))))
unfolding orcpt_from
orcpt_exact {start = start} {line = line} {n = n} more e k l high =
    let h = line_no_cr l in
    let t = l.tail in
    let rest : List ℕ = line ++ (13 ∷ 10 ∷ more) in
    let no = no_false (all is_ascii t) (not_T (all is_ascii t) high) in
    let here : orcpt_from n (texts rest) ≡ Some n = rw (texts_found line more h, line_orcpt l, no) in
    (rw e (orcpt_past k rest ∙ here), rw e (orcpt_offset_lem k rest ∙ rw (text_found line more h, orcpt_byte_is l)))

orcpt_le : (ts : List (List ℕ)) (n m : ℕ) → orcpt_from n ts ≡ Some m → n ≤ m
unfolding orcpt_from
orcpt_le [] n m p = absurd (let z : ◌≡◌ {A = ℕ} 0 1 = cc in omega arith)
orcpt_le (text ∷ more) n m p =
    let r = orcpt_fault (eqb n 0) text in
    by_test r
    (λ u. let q : Some n ≡ Some m = rw (yes_true r u) at p in let same : n ≡ m = cc in omega arith)
    (λ u. omega (arith, orcpt_le more (suc n) m (rw (no_false r u) at p)))

module _ (n : ℕ) (rest : List ℕ) (p : orcpt_from n (texts rest) ≡ Some n) where
  orcpt_nonempty : 0 < length rest
  unfolding orcpt_from
  orcpt_nonempty =
      by_test (ltb 0 (length rest))
      (λ t. ltb_yes {a = 0} {b = length rest} t)
      (λ t. absurd (let q = rw (texts_end rest 0 (ltb_no {a = 0} {b = length rest} t)) at p in let z : ◌≡◌ {A = ℕ} 0 1 = cc in omega arith))

  orcpt_here : orcpt_fault (eqb n 0) (line_text rest) ≡ true
  unfolding orcpt_from
  orcpt_here =
      let r = orcpt_fault (eqb n 0) (line_text rest) in
      let q = rw (texts_at_lem rest 0 (line_len rest) (omega arith) orcpt_nonempty) at p in
      by_test r (yes_true r)
      (λ u. absurd (omega (arith, orcpt_le (texts (drop (line_len rest + 2) rest)) (suc n) n (rw (no_false r u) at q))))

fine_not_malformed : ◌≡◌ {A = Result ⊤ Fault} (Ok tt) (Err Malformed) → ⊥
fine_not_malformed e = cc

-- the line at the front has no fault where the lines from it on pass
front_passed : (rules : Rules) (n m : ℕ) (rest : List ℕ) → 0 < length rest → checked_from rules n (lines rest) ≡ Ok m → fault_of rules n rest ≡ Ok tt
front_passed rules n m rest there p =
    by_fault (fault_of rules n rest)
    (λ f. f)
    (λ here f. absurd (let q : refused here n ≡ Ok m = sym (checked_stop rules rest 0 n (line_len rest) there (omega arith) f) ∙ p in cc))

module _ {rules : Rules} {n m : ℕ} {start out : List ℕ} {ts : List (List ℕ)} (k : EnvelopeLines rules Ascii n start out ts) (rest : List ℕ)
    (p : checked_from rules n (lines rest) ≡ Ok m) (o : orcpt_from n (texts rest) ≡ Some n) where
  orcpt_line_lem : FrontLine rules n rest (Ok tt)
  orcpt_line_lem = front_line_lem rules n rest (Ok tt) fine_not_malformed (front_passed rules n m rest (orcpt_nonempty n rest o) p)

  orcpt_found : OrcptFound rules (start ++ rest) n (orcpt_offset (start ++ rest) n)
  orcpt_found =
      let more = drop (line_len rest + 2) rest in
      let w = read_formed (eqb n 0) (line_text rest) (well_formed_lem rules (eqb n 0) (line_text rest) orcpt_line_lem.of_text) in
      let l = w.2 in
      let not_ascii : not (all is_ascii l.tail) ≡ true = sym (line_orcpt l) ∙ orcpt_here n rest o in
      let high : Ascii l.tail → ⊥ = T_not (all is_ascii l.tail) (true_yes (not (all is_ascii l.tail)) not_ascii) in
      let whole : start ++ rest ≡ start ++ (line_text rest ++ (13 ∷ 10 ∷ more)) = ap (λ (x : List ℕ). start ++ x) orcpt_line_lem.is in
      record {
        start = start;
        line = line_text rest;
        more = more;
        path = w.0;
        alternative = w.1;
        out = out;
        texts = ts;
        l = l;
        is = whole;
        lines = k;
        high = high;
        offset_is = (orcpt_exact more whole k l high).1;
      }

pub envelope_orcpt : (rules : Rules) (e : List ℕ) (m n : ℕ) → checked rules e ≡ Ok m → orcpt_line e ≡ Some n → OrcptFound rules e n (orcpt_offset e n)
envelope_orcpt rules e m n p o =
    let k = orcpt_front rules e m n p o in
    let passed : checked_from rules n (lines k.rest) ≡ Ok m = sym (checked_past k.lines k.rest) ∙ rw k.is at p in
    let here : orcpt_from n (texts k.rest) ≡ Some n = sym (orcpt_past k.lines k.rest) ∙ rw k.is at o in
    subst (λ (x : List ℕ). OrcptFound rules x n (orcpt_offset x n)) (sym k.is) (orcpt_found k.lines k.rest passed here)
