-- That no line is long, by columns and by the grammar.
use borrow.Author.Tests.{ne_eqb, eq-eqb, le-leb, lt-leb}
use Rattle.std.specs.Prelude.{◌≡◌, refl, Bool, not, List, [], ◌∷◌, ◌++◌, ℕ, ◌+◌, ◌≤◌, ◌<◌, T, eqb, leb, length, drop, get_or}
use Rattle.std.proofs.Common.{ap, ◌∙◌, arith, drop_of_length-le, add-one}
use Rattle.std.proofs.Math.Seq.{drop-cons}
use Rattle.std.proofs.Math.Facts.{and_yes, yes_and, leb_yes, leb_no}
use Rattle.lists.specs.Lists.{all}
use Rattle.lists.specs.ListsLaws.{by_test, yes_true, true_yes, no_false}
use Rattle.received.specs.Received.{column_next, column_after, lines_fit}
use Rattle.received.specs.Grammar.{LinesFit}
use Rattle.received.specs.LinesLaws.{column_append, column_past, in_line}

column_fits : (column : ℕ) (s : List ℕ) → column_after column s ≤ 999 → column ≤ 999
column_fits column s h = by_test (leb column 999) (λ t. leb_yes t) (λ t. rw (column_past column s (leb_no t)) at h)

-- a line that fits, from a column on
line_fits_lem : (column : ℕ) (s : List ℕ) → T (all in_line s) → column_after column s ≤ 999 → column + length s ≤ 999
unfolding column_after column_next
line_fits_lem column [] h k = omega arith
line_fits_lem column (b ∷ s) h k =
    let both = and_yes (in_line b) (all in_line s) h in
    let low = le-leb column 999 (column_fits column (b ∷ s) k) in
    omega (arith, line_fits_lem (column + 1) s both.1 (rw (low, no_false (eqb b 10) both.0) at k))

pub lines_fit_lem : (s : List ℕ) → T (lines_fit s) → LinesFit s
unfolding lines_fit
lines_fit_lem s h before line after e i =
    let start = column_after 0 before in
    let fits : column_after 0 s ≤ 999 = leb_yes h in
    let end : column_after 0 s ≡ column_after (column_after start line) after = ap (column_after 0) e ∙ (column_append 0 before (line ++ after) ∙ column_append start line after) in
    omega (arith, line_fits_lem start line i (column_fits (column_after start line) after (rw end at fits)))

-- every line at the front fits, from a column on
abbrev FrontFits : ℕ → List ℕ → Type 0
FrontFits column s = (line after : List ℕ) → s ≡ line ++ after → T (all in_line line) → column + length line ≤ 999

fit_from : (column : ℕ) (s : List ℕ) → FrontFits column s → LinesFit s → column_after column s ≤ 999
unfolding column_after column_next
fit_from column [] first all_lines = omega (arith, first [] [] refl tt)
fit_from column (b ∷ s) first all_lines =
    let low = le-leb column 999 (omega (arith, first [] (b ∷ s) refl tt)) in
    let later : LinesFit s = λ before line after e i. all_lines (b ∷ before) line after (ap (λ (l : List ℕ). b ∷ l) e) i in
    by_test (eqb b 10)
    (λ t. rw (low, yes_true (eqb b 10) t) (fit_from 0 s (λ line after e i. omega (arith, all_lines (b ∷ []) line after (ap (λ (l : List ℕ). b ∷ l) e) i)) later))
    (λ t. rw (low, no_false (eqb b 10) t)
    (fit_from (column + 1) s
    (λ line after e i. omega (arith, first (b ∷ line) after (ap (λ (l : List ℕ). b ∷ l) e) (yes_and (in_line b) (all in_line line) t i)))
    later))

pub fit_lines : (s : List ℕ) → LinesFit s → T (lines_fit s)
unfolding lines_fit
fit_lines s h = true_yes (leb (column_after 0 s) 999) (le-leb (column_after 0 s) 999 (fit_from 0 s (λ line after e i. omega (arith, h [] line after e i)) h))
