-- The number of a line, as the check of lines counts it, is how many lines end before it.
use Rattle.std.specs.Prelude.{◌≡◌, refl, List, [], ◌∷◌, ◌++◌, ℕ, zero, suc, ◌+◌, ◌-◌, ◌≤◌, T, leb, eqb, length, take, Ok, Err}
use Rattle.std.proofs.Common.{ap, sym, ◌∙◌, add-zero, arith}
use Rattle.std.proofs.Math.Seq.{take-append-add}
use Rattle.std.proofs.Math.Facts.{and_yes, leb_yes, leb_no}
use Rattle.lists.specs.Lists.{all}
use Rattle.lists.specs.ListsLaws.{by_test, no_false}
use Rattle.header_line.specs.Lines.{line_byte, line_ok, checked_lines, LineCheck, bad_line}
use Rattle.line.specs.Line.{crlf}
use Rattle.header_line.specs.LineLaws.{lines_at, lines_none, front_bad}
use Rattle.header.specs.Fields.{line_count}
use Rattle.header.specs.FieldShapeLaws.{Cut, cut_line, well_piece, piece_bytes, line_not_cr}

count_past : (a b : List ℕ) → T (all line_byte a) → line_count (a ++ b) ≡ line_count b
unfolding line_count crlf
count_past [] b t = refl
count_past (x ∷ a) b t =
    let both = and_yes (line_byte x) (all line_byte a) t in
    rw (no_false (eqb x 13) (line_not_cr x both.0), count_past a b both.1)

count_end : (rest : List ℕ) → line_count (13 ∷ 10 ∷ rest) ≡ 1 + line_count rest
unfolding line_count crlf
count_end rest = omega arith

record Numbered (n at m to : ℕ) (h : List ℕ) : Type 0 where
  pub up : at ≤ to
  pub count : n + line_count (take (to - at) h) ≡ m

never : {n at : ℕ} → Ok tt ≡ bad_line n at → ⊥
never e = let z : ◌≡◌ {A = ℕ} 0 1 = cc in omega arith

abbrev line_of : LineCheck → ℕ
line_of (Ok ok) = 0
line_of (Err bad) = bad.line

abbrev place_of : LineCheck → ℕ
place_of (Ok ok) = 0
place_of (Err bad) = bad.at

same_line : {n at m to : ℕ} → bad_line n at ≡ bad_line m to → n ≡ m
same_line e = ap line_of e

same_place : {n at m to : ℕ} → bad_line n at ≡ bad_line m to → at ≡ to
same_place e = ap place_of e

here : (n at m to : ℕ) (h : List ℕ) → bad_line n at ≡ bad_line m to → Numbered n at m to h
unfolding line_count
here n at m to h e =
    let none : to - at ≡ 0 = omega (arith, same_place e) in
    record { up = omega (arith, same_place e); count = rw (none, add-zero) (same_line e) }

none_left : (n at m to : ℕ) (h : List ℕ) → length h ≤ 0 → lines_at n at h ≡ bad_line m to → Numbered n at m to h
none_left n at m to [] k e = absurd (never (sym (lines_none n at) ∙ e))
none_left n at m to (b ∷ rest) k e = absurd (omega arith)

past_line : (n at m to : ℕ) (h : List ℕ) (c : Cut n at h) → Numbered (n + 1) c.next m to c.others → Numbered n at m to h
past_line n at m to h c r =
    let line = c.line in
    let j = to - c.next in
    let size : to - at ≡ length line + (2 + j) = omega (arith, r.up, c.after) in
    let clean = piece_bytes line (well_piece (eqb n 0) line c.well) in
    let two : take (2 + j) (13 ∷ 10 ∷ c.others) ≡ 13 ∷ 10 ∷ take j c.others = take_two j c.others in
    let part : take (to - at) h ≡ line ++ (13 ∷ 10 ∷ take j c.others) = rw (size, c.is, take-append-add line (13 ∷ 10 ∷ c.others) (2 + j), two) in
    let count : line_count (take (to - at) h) ≡ 1 + line_count (take j c.others) = rw part (count_past line (13 ∷ 10 ∷ take j c.others) clean ∙ count_end (take j c.others)) in
    record { up = omega (arith, r.up, c.after); count = omega (arith, r.count) }
  where
    take_two : (j : ℕ) (rest : List ℕ) → take (2 + j) (13 ∷ 10 ∷ rest) ≡ 13 ∷ 10 ∷ take j rest
    take_two j rest = let e : 2 + j ≡ suc (suc j) = omega arith in rw e

-- by the number of bytes
numbered : (k n at m to : ℕ) (h : List ℕ) → length h ≤ k → lines_at n at h ≡ bad_line m to → Numbered n at m to h
numbered zero n at m to h l e = none_left n at m to h l e
numbered (suc k) n at m to h l e =
    by_test (leb 1 (length h))
    (λ some.
    by_test (line_ok (eqb n 0) h)
    (λ t.
    let c = cut_line n at h (leb_yes some) t in
    past_line n at m to h c (numbered k (n + 1) c.next m to c.others (omega (arith, c.shorter)) (sym c.left ∙ e)))
    (λ t. here n at m to h (sym (front_bad n at h (leb_yes some) (no_false (line_ok (eqb n 0) h) t)) ∙ e)))
    (λ t. none_left n at m to h (omega (arith, leb_no {a = 1} {b = length h} t)) e)

pub line_number : (h : List ℕ) (n at : ℕ) → checked_lines h ≡ bad_line n at → n ≡ line_count (take at h)
unfolding checked_lines
line_number h n at e =
    let whole : at - 0 ≡ at = omega arith in
    let r = numbered (length h) 0 0 n at h (omega arith) e in
    let count : 0 + line_count (take at h) ≡ n = rw whole at r.count in
    omega arith
