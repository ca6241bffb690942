-- The lines of an envelope by the grammar are those that are checked and written.
use Rattle.std.specs.Prelude.{◌≡◌, Bool, true, false, not, ℕ, suc, pred, ◌+◌, ◌≤◌, ◌<◌, T, eqb, leb, ltb, length, take, Ok, Some, None}
use Rattle.std.proofs.Math.Path.{refl, ap}
use Rattle.std.proofs.Common.{sym, ◌∙◌, arith, length-append, length-take, drop_of_length-le, le-leb, le-ltb}
use mathlib.Core.List.{List, [], ◌∷◌, ◌++◌, map, append_assoc, append-nil}
use Rattle.std.proofs.Math.Dec.{eqb-suc-zero}
use Rattle.std.proofs.Math.Seq.{take-append_seam, drop-append_seam, take-append-add, drop-append-add}
use Rattle.std.proofs.Math.Facts.{and_yes, leb_yes, yes_leb, ltb_no}
use Rattle.std.proofs.lemmas.Bool.{not-true, not-false}
use Rattle.lists.specs.Lists.{all, nonempty, joined}
use Rattle.lists.specs.ListsLaws.{by_test, true_yes, yes_true, no_false, all_append}
use Rattle.lists.specs.Byte.{is_ascii}
use Rattle.lists.specs.CutByLaws.{cut_all}
use Rattle.line.specs.Line.{crlf, line_len, not_cr}
use Rattle.line.specs.LineLaws.{line_front}
use Rattle.rules.specs.declared.Rules.{Rules}
use Rattle.rules.specs.Rules.{allows_alternative}
use Rattle.envelope_line.specs.declared.Fault.{Fault}
use Rattle.envelope_line.specs.declared.Fault.TheVariants.{Malformed}
use Rattle.envelope_line.specs.EnvelopeLine.{tail, line_fault, orcpt_fault, written_line, replacement}
use Rattle.envelope_line.proofs.LineGrammarLaws.{line_written, written_exact, written_kept as Line_kept}
use Rattle.envelope_line.proofs.LineBytesLaws.{written_no_cr, written_orcpt}
use Rattle.envelope.specs.Envelope.{lines, line_text, ended_fault, fault_of, counted, checked_from, checked, texts, orcpt_from, orcpt_line, written_ended, written_of, written, refused}
use Rattle.envelope.proofs.LinesLaws.{lines_joined, text_ended, lines_end_lem, lines_at_lem}
use Rattle.envelope.proofs.CheckLaws.{same_line, by_fault, ended, ended_fine, fine_few, fine_ended}
use Rattle.envelope.proofs.PassedLaws.{passed_line}
use Rattle.envelope.specs.EnvelopeDemand.{Any, Ascii, EnvelopeLines}

-- ---- a line of the grammar is found

-- a line, with its CRLF, between others
pub line_between : (before line rest : List ℕ) → (before ++ (line ++ (13 ∷ 10 ∷ []))) ++ rest ≡ before ++ (line ++ (13 ∷ 10 ∷ rest))
line_between before line rest = append_assoc before (line ++ (13 ∷ 10 ∷ [])) rest ∙ ap (λ (l : List ℕ). before ++ l) (append_assoc line (13 ∷ 10 ∷ []) rest)

pub line_len_lem : (l rest : List ℕ) → T (all not_cr l) → line_len (l ++ (13 ∷ 10 ∷ rest)) ≡ length l
unfolding line_len crlf
line_len_lem [] rest h = refl
line_len_lem (b ∷ l) rest h =
    let p = and_yes (not_cr b) (all not_cr l) h in
    rw (not-true (eqb b 13) (yes_true (not_cr b) p.0), line_len_lem l rest p.1)

module _ (l rest : List ℕ) (h : T (all not_cr l)) where
  pub text_found : line_text (l ++ (13 ∷ 10 ∷ rest)) ≡ l
  unfolding line_text
  text_found = rw (line_len_lem l rest h) (take-append_seam l (13 ∷ 10 ∷ rest))

  pub lines_found : lines (l ++ (13 ∷ 10 ∷ rest)) ≡ (l ++ (13 ∷ 10 ∷ [])) ∷ lines rest
  lines_found =
      let s : List ℕ = l ++ (13 ∷ 10 ∷ rest) in
      let some : 0 < length s = omega (arith, length-append l (13 ∷ 10 ∷ rest)) in
      lines_at_lem s 0 (line_len s) (omega arith) some ∙ rw (line_len_lem l rest h, take-append-add l (13 ∷ 10 ∷ rest) 2, drop-append-add l (13 ∷ 10 ∷ rest) 2)

  pub fault_found : (rules : Rules) (n : ℕ) → n ≤ 100 → fault_of rules n (l ++ (13 ∷ 10 ∷ rest)) ≡ line_fault rules (eqb n 0) l
  unfolding fault_of ended_fault crlf
  fault_found rules n few = rw (le-leb n 100 few, line_len_lem l rest h, drop-append_seam l (13 ∷ 10 ∷ rest), text_found)

pub texts_found : (l rest : List ℕ) → T (all not_cr l) → texts (l ++ (13 ∷ 10 ∷ rest)) ≡ l ∷ texts rest
unfolding texts
texts_found l rest h = rw (lines_found l rest h, text_found l [] h)

-- ---- what is written, line by line

-- the text for the header of each line where its path is replaced, and else none
unfoldable pub replacements_of : List (List ℕ) → List (List ℕ)
replacements_of [] = []
replacements_of (mail ∷ rcpts) = replacement true mail ∷ map (replacement false) rcpts

unfoldable pub replacements : List ℕ → List (List ℕ)
replacements e = replacements_of (texts e)

-- what a function gives for each line from line n on, of which line 0 is the MAIL line
module _ {A : Type 0} (f : Bool → List ℕ → A) where
  unfoldable each_from : ℕ → List (List ℕ) → List A
  each_from n [] = []
  each_from n (text ∷ more) = f (eqb n 0) text ∷ each_from (suc n) more

  rcpts_each : (n : ℕ) (rcpts : List (List ℕ)) → map (f false) rcpts ≡ each_from (suc n) rcpts
  unfolding each_from
  rcpts_each n [] = refl
  rcpts_each n (text ∷ more) = rw (eqb-suc-zero n, rcpts_each (suc n) more)

all_out : (ts : List (List ℕ)) → written_of ts ≡ joined (each_from written_ended 0 ts)
unfolding written_of each_from
all_out [] = refl
all_out (mail ∷ rcpts) = rw (rcpts_each written_ended 0 rcpts)

all_texts : (ts : List (List ℕ)) → replacements_of ts ≡ each_from replacement 0 ts
unfolding replacements_of each_from
all_texts [] = refl
all_texts (mail ∷ rcpts) = rw (rcpts_each replacement 0 rcpts)

-- ---- after the first n lines

module _ {rules : Rules} where
  module _ {Asked : List ℕ → Type 0} where
    pub checked_past : {n : ℕ} {start out : List ℕ} {ts : List (List ℕ)} → EnvelopeLines rules Asked n start out ts → (rest : List ℕ)
        → checked rules (start ++ rest) ≡ checked_from rules n (lines rest)
    unfolding checked checked_from
    checked_past EnvelopeLines.none rest = refl
    checked_past (EnvelopeLines.then {n} {before} {line} e few w a) rest =
        let h = written_no_cr w in
        ap (checked rules) (line_between before line rest) ∙ checked_past e (line ++ (13 ∷ 10 ∷ rest))
        ∙ rw (lines_found line rest h, fault_found line [] h rules n few, (written_exact w).fine)

    written_past : {n : ℕ} {start out : List ℕ} {ts : List (List ℕ)} → EnvelopeLines rules Asked n start out ts → (rest : List ℕ)
        → written (start ++ rest) ≡ out ++ joined (each_from written_ended n (texts rest))
    unfolding written each_from written_ended
    written_past EnvelopeLines.none rest = all_out (texts rest)
    written_past (EnvelopeLines.then {n} {before} {line} {out} {new} e few w a) rest =
        ap written (line_between before line rest) ∙ written_past e (line ++ (13 ∷ 10 ∷ rest))
        ∙ rw (texts_found line rest (written_no_cr w), (written_exact w).out_is) (simp append_assoc)

    replaced_past : {n : ℕ} {start out : List ℕ} {ts : List (List ℕ)} → EnvelopeLines rules Asked n start out ts → (rest : List ℕ)
        → replacements (start ++ rest) ≡ ts ++ each_from replacement n (texts rest)
    unfolding replacements each_from
    replaced_past EnvelopeLines.none rest = all_texts (texts rest)
    replaced_past (EnvelopeLines.then {n} {before} {line} {text} {texts = ts} e few w a) rest =
        ap replacements (line_between before line rest) ∙ replaced_past e (line ++ (13 ∷ 10 ∷ rest))
        ∙ rw (texts_found line rest (written_no_cr w), (written_exact w).text_is) (simp append_assoc)

  pub orcpt_past : {n : ℕ} {start out : List ℕ} {ts : List (List ℕ)} → EnvelopeLines rules Ascii n start out ts → (rest : List ℕ)
      → orcpt_line (start ++ rest) ≡ orcpt_from n (texts rest)
  unfolding orcpt_line orcpt_from
  orcpt_past EnvelopeLines.none rest = refl
  orcpt_past (EnvelopeLines.then {n} {before} {line} {tail = t} e few w a) rest =
      ap orcpt_line (line_between before line rest) ∙ orcpt_past e (line ++ (13 ∷ 10 ∷ rest))
      ∙ rw (texts_found line rest (written_no_cr w), written_orcpt w, yes_true (all is_ascii t) a)

-- ---- all lines

pub no_lines : lines [] ≡ []
no_lines = lines_end_lem [] 0 (omega arith)

pub lines_passed : {rules : Rules} {Asked : List ℕ → Type 0} {n : ℕ} {e out : List ℕ} {ts : List (List ℕ)} → EnvelopeLines rules Asked n e out ts → 2 ≤ n
    → (checked rules e ≡ Ok (pred n)) × (out ≡ written e) × (ts ≡ replacements e)
unfolding checked_from counted texts each_from
lines_passed {rules} {n = n} k h =
    let passed : checked_from rules n (lines []) ≡ Ok (pred n) = rw (no_lines, le-ltb n 2 h) in
    (rw append-nil at (checked_past k []) ∙ passed, rw (no_lines, append-nil, append-nil) at (sym (written_past k [])), rw (no_lines, append-nil, append-nil) at (sym (replaced_past k [])))

pub lines_clean : {rules : Rules} {n : ℕ} {e out : List ℕ} {ts : List (List ℕ)} → EnvelopeLines rules Ascii n e out ts → orcpt_line e ≡ None
unfolding orcpt_from texts
lines_clean k = rw (no_lines, append-nil) at (orcpt_past k [])

-- where an ALT-ADDRESS is refused the envelope goes as it came, and no line has a text for the header
pub envelope_kept : {rules : Rules} {Asked : List ℕ → Type 0} {n : ℕ} {e out : List ℕ} {ts : List (List ℕ)} → T (not (allows_alternative rules)) → EnvelopeLines rules Asked n e out ts
    → (out ≡ e) × T (all (λ text. not (nonempty text)) ts)
envelope_kept n EnvelopeLines.none = (refl, tt)
envelope_kept n (EnvelopeLines.then {text} {texts = ts} k few w a) =
    let before = envelope_kept n k in
    let line = Line_kept n w in
    (rw (before.0, line.0), all_append (λ text. not (nonempty text)) ts (text ∷ []) before.1 (rw line.1 tt))

-- ---- a line is its text and CRLF

-- nothing follows the CRLF of a line
abbrev at_end : List ℕ → Bool
at_end line = leb (length line) (line_len line + 2)

front_end : (s : List ℕ) → T (at_end (take (suc (pred (line_len s + 2))) s))
front_end s =
    let m : suc (pred (line_len s + 2)) ≡ line_len s + 2 = omega arith in
    rw (m, line_front s) (yes_leb {a = length (take (line_len s + 2) s)} {b = line_len s + 2} (rw length-take (omega arith)))

each_end : (e : List ℕ) → T (all at_end (lines e))
unfolding lines
each_end e = cut_all (λ rest. line_len rest + 2) at_end (λ s k. front_end s) e

text_is : (rules : Rules) (mail : Bool) (line : List ℕ) → ended_fault rules mail line ≡ Ok tt → T (at_end line) → line_text line ++ (13 ∷ 10 ∷ []) ≡ line
text_is rules mail line f k =
    let n = line_len line in
    let last = drop_of_length-le line {i = n + 2} (leb_yes {a = length line} {b = n + 2} k) in
    sym (rw last at (text_ended line (ended rules mail line f)))

-- ---- the lines up to a place

-- the first n lines of an envelope, none of them refused, and what follows them
pub record LinesFront (rules : Rules) (Asked : List ℕ → Type 0) (n : ℕ) (e : List ℕ) : Type 0 where
  pub start : List ℕ
  pub rest : List ℕ
  pub out : List ℕ
  pub texts : List (List ℕ)
  pub is : e ≡ start ++ rest
  pub lines : EnvelopeLines rules Asked n start out texts

module _ (rules : Rules) {Asked : List ℕ → Type 0} {n : ℕ} {start out : List ℕ} {ts : List (List ℕ)} (k : EnvelopeLines rules Asked n start out ts) where
  -- one line more
  line_then : (line : List ℕ) → T (at_end line) → fault_of rules n line ≡ Ok tt → Asked (tail (eqb n 0) (line_text line))
      → EnvelopeLines rules Asked (suc n) (start ++ line) (out ++ (written_line (eqb n 0) (line_text line) ++ (13 ∷ 10 ∷ []))) (ts ++ (replacement (eqb n 0) (line_text line) ∷ []))
  line_then line t f a =
      let mail = eqb n 0 in
      let g = fine_ended rules n line f in
      rw (text_is rules mail line g t) at (EnvelopeLines.then k (fine_few rules n line f) (line_written rules mail (line_text line) (ended_fine rules mail line g)) a)

  front_here : (rest : List ℕ) → LinesFront rules Asked n (start ++ rest)
  front_here rest = record { start = start; rest = rest; out = out; texts = ts; is = refl; lines = k }

-- up to the line that is refused
refused_from : (rules : Rules) (ls : List (List ℕ)) (n m : ℕ) (fault : Fault) {start out : List ℕ} {ts : List (List ℕ)} → EnvelopeLines rules Any n start out ts → T (all at_end ls)
    → checked_from rules n ls ≡ refused fault m → LinesFront rules Any m (start ++ joined ls)
unfolding checked_from counted
refused_from rules [] n m fault k t p =
    by_test (ltb n 2)
    (λ u. let q : refused Malformed n ≡ refused fault m = rw (yes_true (ltb n 2) u) at p in
    let same : n ≡ m = same_line q in
    rw same at (front_here rules k []))
    (λ u. absurd (let q = rw (no_false (ltb n 2) u) at p in let z : ◌≡◌ {A = ℕ} 0 1 = cc in omega arith))
refused_from rules (line ∷ more) n m fault {start} k t p =
    let b = and_yes (at_end line) (all at_end more) t in
    by_fault (fault_of rules n line)
    (λ f. rw append_assoc at (refused_from rules more (suc n) m fault (line_then rules k line b.0 f tt) b.1 (rw f at p)))
    (λ here f. let q : refused here n ≡ refused fault m = rw f at p in
    let same : n ≡ m = same_line q in
    rw same at (front_here rules k (line ++ joined more)))

pub refused_front : (rules : Rules) (e : List ℕ) (fault : Fault) (n : ℕ) → checked rules e ≡ refused fault n → LinesFront rules Any n e
unfolding checked
refused_front rules e fault n p = rw (lines_joined e) at (refused_from rules (lines e) 0 n fault EnvelopeLines.none (each_end e) p)

-- up to the line with an ORCPT that carries non-ASCII
line_ascii : (rules : Rules) (n : ℕ) (line : List ℕ) → fault_of rules n line ≡ Ok tt → orcpt_fault (eqb n 0) (line_text line) ≡ false → Ascii (tail (eqb n 0) (line_text line))
line_ascii rules n line f o =
    let mail = eqb n 0 in
    let t = tail mail (line_text line) in
    let w = line_written rules mail (line_text line) (ended_fine rules mail line (fine_ended rules n line f)) in
    true_yes (all is_ascii t) (not-false (all is_ascii t) (sym (written_orcpt w) ∙ o))

orcpt_from_lem : (rules : Rules) (ls : List (List ℕ)) (n m found : ℕ) {start out : List ℕ} {ts : List (List ℕ)} → EnvelopeLines rules Ascii n start out ts → T (all at_end ls)
    → checked_from rules n ls ≡ Ok m → orcpt_from n (map line_text ls) ≡ Some found → LinesFront rules Ascii found (start ++ joined ls)
unfolding orcpt_from
orcpt_from_lem rules [] n m found k t p o = absurd (let z : ◌≡◌ {A = ℕ} 0 1 = cc in omega arith)
orcpt_from_lem rules (line ∷ more) n m found k t p o =
    let b = and_yes (at_end line) (all at_end more) t in
    let f = passed_line rules n m line more p in
    let r = orcpt_fault (eqb n 0) (line_text line) in
    by_test r
    (λ u. let q : Some n ≡ Some found = rw (yes_true r u) at o in
    let same : n ≡ found = cc in
    rw same at (front_here rules k (line ++ joined more)))
    (λ u. let no = no_false r u in
    rw append_assoc at (orcpt_from_lem rules more (suc n) m found (line_then rules k line b.0 f.0 (line_ascii rules n line f.0 no)) b.1 f.1 (rw no at o)))

pub orcpt_front : (rules : Rules) (e : List ℕ) (m n : ℕ) → checked rules e ≡ Ok m → orcpt_line e ≡ Some n → LinesFront rules Ascii n e
unfolding checked orcpt_line texts
orcpt_front rules e m n p o = rw (lines_joined e) at (orcpt_from_lem rules (lines e) 0 m n EnvelopeLines.none (each_end e) p o)

-- ---- an envelope that passes

-- what is asked of each of these lines, from line n on
abbrev EachAsked : (List ℕ → Type 0) → ℕ → List (List ℕ) → Type 0
EachAsked Asked n [] = Unit {0}
EachAsked Asked n (line ∷ more) = Asked (tail (eqb n 0) (line_text line)) × EachAsked Asked (suc n) more

each_any : (n : ℕ) (ls : List (List ℕ)) → EachAsked Any n ls
each_any n [] = tt
each_any n (line ∷ more) = (tt, each_any (suc n) more)

each_ascii : (rules : Rules) (ls : List (List ℕ)) (n m : ℕ) → checked_from rules n ls ≡ Ok m → orcpt_from n (map line_text ls) ≡ None → EachAsked Ascii n ls
unfolding orcpt_from
each_ascii rules [] n m p o = tt
each_ascii rules (line ∷ more) n m p o =
    let f = passed_line rules n m line more p in
    let r = orcpt_fault (eqb n 0) (line_text line) in
    by_test r
    (λ u. absurd (let q = rw (yes_true r u) at o in let z : ◌≡◌ {A = ℕ} 0 1 = cc in omega arith))
    (λ u. let no = no_false r u in (line_ascii rules n line f.0 no, each_ascii rules more (suc n) m f.1 (rw no at o)))

-- all lines, whatever is written for them
abbrev AllLines : Rules → (List ℕ → Type 0) → ℕ → List ℕ → Type 0
AllLines rules Asked n e = (out : List ℕ) × (ts : List (List ℕ)) × EnvelopeLines rules Asked n e out ts

passed_from : (rules : Rules) {Asked : List ℕ → Type 0} (ls : List (List ℕ)) (n m : ℕ) {start out : List ℕ} {ts : List (List ℕ)} → EnvelopeLines rules Asked n start out ts → T (all at_end ls)
    → EachAsked Asked n ls → checked_from rules n ls ≡ Ok m → (1 ≤ m) × AllLines rules Asked (suc m) (start ++ joined ls)
unfolding checked_from counted
passed_from rules {Asked} [] n m {start} {out} {ts} k t a p =
    by_test (ltb n 2)
    (λ u. absurd (let q = rw (yes_true (ltb n 2) u) at p in let z : ◌≡◌ {A = ℕ} 0 1 = cc in omega arith))
    (λ u. let q : Ok (pred n) ≡ Ok m = rw (no_false (ltb n 2) u) at p in
    let same : pred n ≡ m = cc in
    let two : 2 ≤ n = ltb_no {a = n} {b = 2} u in
    let size : n ≡ suc m = omega arith in
    let whole : EnvelopeLines rules Asked (suc m) start out ts = rw size at k in
    (omega arith, rw append-nil (out, ts, whole)))
passed_from rules (line ∷ more) n m k t a p =
    let b = and_yes (at_end line) (all at_end more) t in
    let f = passed_line rules n m line more p in
    rw append_assoc at (passed_from rules more (suc n) m (line_then rules k line b.0 f.0 a.0) b.1 a.1 f.1)

module _ (rules : Rules) (e : List ℕ) (m : ℕ) (p : checked rules e ≡ Ok m) where
  passed_whole : {Asked : List ℕ → Type 0} → EachAsked Asked 0 (lines e) → (1 ≤ m) × EnvelopeLines rules Asked (suc m) e (written e) (replacements e)
  unfolding checked
  passed_whole {Asked} a =
      let w = rw (lines_joined e) at (passed_from rules {Asked = Asked} (lines e) 0 m EnvelopeLines.none (each_end e) a p) in
      let same = lines_passed w.1.2 (omega (arith, w.0)) in
      (w.0, rw (same.1, same.2) at w.1.2)

  pub envelope_passed : (1 ≤ m) × EnvelopeLines rules Any (suc m) e (written e) (replacements e)
  envelope_passed = passed_whole (each_any 0 (lines e))

  pub envelope_clean : orcpt_line e ≡ None → EnvelopeLines rules Ascii (suc m) e (written e) (replacements e)
  unfolding checked orcpt_line texts
  envelope_clean o = (passed_whole (each_ascii rules (lines e) 0 m p o)).1

-- where an ALT-ADDRESS is refused the envelope goes as it came
pub written_kept : (rules : Rules) (e : List ℕ) (m : ℕ) → T (not (allows_alternative rules)) → checked rules e ≡ Ok m → written e ≡ e
written_kept rules e m n p = (envelope_kept n (envelope_passed rules e m p).1).0
