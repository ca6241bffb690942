-- A header's lines, by relations, are those that are checked, and the first malformed one is the one that is found.
use Rattle.std.specs.Prelude.{◌≡◌, Bool, true, false, not, List, [], ◌∷◌, ◌++◌, ℕ, zero, suc, ◌+◌, ◌≤◌, ◌<◌, T, eqb, take, Ok}
use Rattle.std.proofs.Math.Path.{refl}
use Rattle.std.proofs.Common.{sym, ap, ◌∙◌, append_assoc, append-nil, add-one, arith, T_not, length-append, take-append-drop, take_all, take-add, drop-drop}
use Rattle.std.proofs.Math.Nat.{add-zero}
use Rattle.std.proofs.Math.ListN.{length, drop}
use Rattle.std.proofs.Math.Seq.{take_at, drop_at}
use Rattle.lists.specs.Lists.{all}
use Rattle.lists.specs.ListsLaws.{by_test, cond_has, yes_true, true_yes, no_false, all_weaken}
use Rattle.lists.specs.Run.{run}
use Rattle.lists.specs.RunLaws.{run_past}
use Rattle.line.specs.Line.{crlf, line_len, not_cr, cr_run}
use Rattle.line.specs.LineLaws.{line_cr, line_none}
use Rattle.line_stop.specs.FirstBad.{WithCrlf, MalformedAt}
use Rattle.line_stop.proofs.FirstBadLaws.{first_once}
use Rattle.header_line.specs.Lines.{well_formed, line_ok, checked_lines, bad_line, LineCheck}
use Rattle.header_line.specs.LineLaws.{lines_at, lines_none, front_good, front_bad}
use Rattle.header.specs.FieldShapeLaws.{Cut, cut_line, well_piece, piece_bytes, line_not_cr, crlf_front}
use Rattle.header_stop.specs.HeaderStop.{line_stop}
use Rattle.header_stop.specs.HeaderStopLaws.{line_stop_lem, line_stop_alone}
use Rattle.offset.specs.Offset.{front_line, header_line_offset}
use Rattle.demands.specs.Downgraded.{HeaderFormedAt, HeaderLines}
use Rattle.demands.specs.HeaderGiven.{MalformedHeader}

-- ---- a line at the front

no_cr_lem : (first : Bool) (text : List ℕ) → T (well_formed first text) → T (all not_cr text)
no_cr_lem first text t = all_weaken _ not_cr line_not_cr text (piece_bytes text (well_piece first text t))

-- a well-formed line, its CRLF with it, and what follows
module _ (first : Bool) (text more : List ℕ) (t : T (well_formed first text)) where
  crlf_there : crlf (13 ∷ 10 ∷ more) ≡ true
  unfolding crlf
  crlf_there = refl

  front_len : line_len (text ++ (13 ∷ 10 ∷ more)) ≡ length text
  unfolding run
  front_len =
      let s = text ++ (13 ∷ 10 ∷ more) in
      let n : cr_run s ≡ length text = run_past not_cr text (13 ∷ 10 ∷ more) (no_cr_lem first text t) ∙ add-zero (length text) in
      line_cr s ∙ rw (n, drop_at text (13 ∷ 10 ∷ more) (length text) refl, line_none (13 ∷ 10 ∷ more) crlf_there) (add-zero (length text))

  front_ok : line_ok first (text ++ (13 ∷ 10 ∷ more)) ≡ true
  unfolding line_ok
  front_ok =
      rw (front_len, drop_at text (13 ∷ 10 ∷ more) (length text) refl, take_at text (13 ∷ 10 ∷ more) (length text) refl, crlf_there) (yes_true (well_formed first text) t)

-- the line at the front is passed over
line_past : {line : List ℕ} (n at : ℕ) (more : List ℕ) → WithCrlf (HeaderFormedAt n) line → lines_at n at (line ++ more) ≡ lines_at (suc n) (at + length line) more
line_past {line} n at more w =
    let s = w.text ++ (13 ∷ 10 ∷ more) in
    let is : line ++ more ≡ s = rw w.ends (append_assoc w.text (13 ∷ 10 ∷ []) more) in
    let size : length line ≡ length w.text + 2 = rw w.ends (length-append w.text (13 ∷ 10 ∷ [])) in
    let some : 0 < length s = omega (arith, length-append w.text (13 ∷ 10 ∷ more)) in
    let n_line : line_len s + 2 ≡ length line = omega (arith, front_len (eqb n 0) w.text more w.formed) in
    let rest : drop (length line) s ≡ more = rw (← is) (drop_at line more (length line) refl) in
    rw is (front_good n at s some (front_ok (eqb n 0) w.text more w.formed) ∙ rw (n_line, rest, add-one))

-- ---- line after line

lines_past : {n : ℕ} {start : List ℕ} (rest : List ℕ) → HeaderLines n start → lines_at 0 0 (start ++ rest) ≡ lines_at n (length start) rest
lines_past rest (HeaderLines.none) = refl
lines_past rest (HeaderLines.then {n} {before} {line} ls w) =
    rw (append_assoc before line rest, length-append before line) (lines_past (line ++ rest) ls ∙ line_past n (length before) rest w)

pub lines_header : {n : ℕ} {h : List ℕ} → HeaderLines n h → checked_lines h ≡ Ok tt
unfolding checked_lines
lines_header {n} {h} ls = rw (append-nil h) at (lines_past [] ls ∙ lines_none n (length h))

-- what a check of lines comes to
data Checked (h : List ℕ) : LineCheck → Type 0 where
  whole : {n : ℕ} → HeaderLines n h → Checked h (Ok tt)
  stopped : {n : ℕ} {start : List ℕ} (rest : List ℕ) → h ≡ start ++ rest → HeaderLines n start → 0 < length rest → T (not (line_ok (eqb n 0) rest))
      → Checked h (bad_line n (length start))

-- a well-formed line more
check_past : (n : ℕ) (start rest : List ℕ) (c : Cut n (length start) rest)
    → Checked ((start ++ (c.line ++ (13 ∷ 10 ∷ []))) ++ c.others) (lines_at (suc n) (length (start ++ (c.line ++ (13 ∷ 10 ∷ [])))) c.others)
    → Checked (start ++ rest) (lines_at n (length start) rest)
check_past n start rest c =
    let line = c.line ++ (13 ∷ 10 ∷ []) in
    let is : rest ≡ line ++ c.others = c.is ∙ sym (append_assoc c.line (13 ∷ 10 ∷ []) c.others) in
    let bytes : (start ++ line) ++ c.others ≡ start ++ rest = append_assoc start line c.others ∙ ap (λ (l : List ℕ). start ++ l) (sym is) in
    let size : c.next ≡ length (start ++ line) = omega (arith, c.after, length-append start line, length-append c.line (13 ∷ 10 ∷ [])) in
    let same : lines_at (suc n) (length (start ++ line)) c.others ≡ lines_at n (length start) rest = sym (c.left ∙ rw (size, add-one)) in
    λ more. rw (bytes, same) at more

-- by the number of bytes that are left
check : (k n : ℕ) (start rest : List ℕ) → length rest ≤ k → HeaderLines n start → Checked (start ++ rest) (lines_at n (length start) rest)
check zero n start [] l ls = rw (append-nil start, lines_none n (length start)) (Checked.whole ls)
check zero n start (b ∷ rest) l ls = absurd (omega arith)
check (suc k) n start [] l ls = rw (append-nil start, lines_none n (length start)) (Checked.whole ls)
check (suc k) n start (b ∷ rest) l ls =
    by_test (line_ok (eqb n 0) (b ∷ rest))
    (λ t.
    let c = cut_line n (length start) (b ∷ rest) (omega arith) t in
    let line : WithCrlf (HeaderFormedAt n) (c.line ++ (13 ∷ 10 ∷ [])) = record { text = c.line; ends = refl; formed = c.well } in
    check_past n start (b ∷ rest) c (check k (suc n) (start ++ (c.line ++ (13 ∷ 10 ∷ []))) c.others (omega (arith, c.shorter)) (HeaderLines.then ls line)))
    (λ t. rw (front_bad n (length start) (b ∷ rest) (omega arith) (no_false (line_ok (eqb n 0) (b ∷ rest)) t)) (Checked.stopped (b ∷ rest) refl ls (omega arith) t))

checked : (h : List ℕ) → Checked h (checked_lines h)
unfolding checked_lines
checked h = check (length h) 0 [] h (omega arith) HeaderLines.none

pub header_lines : (h : List ℕ) → checked_lines h ≡ Ok tt → (n : ℕ) × HeaderLines n h
header_lines h e = lines (rw e at (checked h))
  where
    lines : Checked h (Ok tt) → (n : ℕ) × HeaderLines n h
    lines (Checked.whole {n} ls) = (n, ls)

-- ---- the first malformed line

-- where no CRLF follows it, the line at the front is all there is
line_rest : (s : List ℕ) → T (not (crlf (drop (line_len s) s))) → line_len s ≡ length s
unfolding line_len
line_rest [] = λ u. refl
line_rest (b ∷ s) =
    let rest = line_rest s in
    cond_has (λ n. T (not (crlf (drop n (b ∷ s)))) → n ≡ suc (length s)) (crlf (b ∷ s)) 0 (suc (line_len s)) (λ t u. absurd (T_not (crlf (b ∷ s)) u t)) (λ t u. ap suc (rest u))

-- the byte that tells a malformed line is found in that line alone
stop_front : (first : Bool) (s : List ℕ) → T (not (line_ok first s)) → line_stop first (front_line s) ≡ line_stop first s
unfolding line_ok front_line
stop_front first s bad =
    let n = line_len s in
    let text = take n s in
    let more = drop (n + 2) s in
    by_test (crlf (drop n s))
    (λ t.
    let split : drop n s ≡ 13 ∷ 10 ∷ more = crlf_front (drop n s) t ∙ rw drop-drop in
    let whole : s ≡ text ++ (13 ∷ 10 ∷ more) = sym (take-append-drop n s) ∙ ap (λ (l : List ℕ). text ++ l) split in
    let front : take (n + 2) s ≡ text ++ (13 ∷ 10 ∷ []) = take-add n 2 s ∙ ap (λ (l : List ℕ). text ++ take 2 l) split in
    let unformed : T (not (well_formed first text)) = rw (yes_true (crlf (drop n s)) t) at bad in
    ap (line_stop first) front ∙ sym (ap (line_stop first) whole ∙ line_stop_alone first text more unformed))
    (λ t. ap (line_stop first) (take_all (n + 2) s (omega (arith, line_rest s t))))

module _ (h start rest : List ℕ) (n : ℕ) (is : h ≡ start ++ rest) (bad : T (not (line_ok (eqb n 0) rest))) where
  offset_at : header_line_offset h n (length start) ≡ length start + line_stop (eqb n 0) rest
  unfolding header_line_offset
  offset_at =
      let left : drop (length start) h ≡ rest = rw is (drop_at start rest (length start) refl) in
      rw (left, stop_front (eqb n 0) rest bad)

  -- no well-formed line stands at the front
  none_formed : (line more : List ℕ) → WithCrlf (HeaderFormedAt n) line → rest ≡ line ++ more → ⊥
  none_formed line more w e =
      let there : rest ≡ w.text ++ (13 ∷ 10 ∷ more) = e ∙ rw w.ends (append_assoc w.text (13 ∷ 10 ∷ []) more) in
      T_not (line_ok (eqb n 0) rest) bad (rw there (true_yes (line_ok (eqb n 0) (w.text ++ (13 ∷ 10 ∷ more))) (front_ok (eqb n 0) w.text more w.formed)))

  malformed_at : MalformedAt (HeaderFormedAt n) start rest (header_line_offset h n (length start))
  malformed_at = record { malformed = none_formed; byte = line_stop (eqb n 0) rest; first = line_stop_lem (eqb n 0) rest; offset_is = offset_at }

pub header_malformed_found : (h : List ℕ) (n at : ℕ) → checked_lines h ≡ bad_line n at → MalformedHeader h n (header_line_offset h n at)
header_malformed_found h n at e = there (rw e at (checked h))
  where
    there : {n at : ℕ} → Checked h (bad_line n at) → MalformedHeader h n (header_line_offset h n at)
    there (Checked.stopped {n} {start} rest is ls some bad) =
        record { start = start; rest = rest; is = is; lines = ls; some = λ none. omega (arith, ap length none); at = malformed_at h start rest n is bad }

some_left : (s : List ℕ) → (s ≡ [] → ⊥) → 0 < length s
some_left [] some = absurd (some refl)
some_left (b ∷ s) some = omega arith

not_ok : {start rest : List ℕ} {offset : ℕ} (n : ℕ) → 0 < length rest → MalformedAt (HeaderFormedAt n) start rest offset → T (not (line_ok (eqb n 0) rest))
not_ok {rest = rest} n some m =
    by_test (line_ok (eqb n 0) rest)
    (λ t.
    let c = cut_line n 0 rest some t in
    let line : WithCrlf (HeaderFormedAt n) (c.line ++ (13 ∷ 10 ∷ [])) = record { text = c.line; ends = refl; formed = c.well } in
    absurd (m.malformed (c.line ++ (13 ∷ 10 ∷ [])) c.others line (c.is ∙ sym (append_assoc c.line (13 ∷ 10 ∷ []) c.others))))
    (λ t. t)

pub header_malformed_exact : {h : List ℕ} {n offset : ℕ} (x : MalformedHeader h n offset) → (checked_lines h ≡ bad_line n (length x.start)) × (offset ≡ header_line_offset h n (length x.start))
unfolding checked_lines
header_malformed_exact {h} {n} {offset} x =
    let start = x.start in
    let rest = x.rest in
    let is = x.is in
    let m = x.at in
    let left = some_left rest x.some in
    let bad = not_ok n left m in
    let byte : m.byte ≡ line_stop (eqb n 0) rest = first_once m.first (line_stop_lem (eqb n 0) rest) in
    (rw is (lines_past rest x.lines ∙ front_bad n (length start) rest left (no_false (line_ok (eqb n 0) rest) bad)), m.offset_is ∙ rw byte (sym (offset_at h start rest n is bad)))
