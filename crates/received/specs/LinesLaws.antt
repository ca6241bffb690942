-- Laws of the lines of what is written.
use borrow.Author.Tests.{ne_eqb, eq-eqb, le-leb, lt-leb}
use Rattle.std.specs.Prelude.{◌≡◌, refl, Bool, not, List, [], ◌∷◌, ◌++◌, ℕ, ◌+◌, ◌≤◌, ◌<◌, T, eqb, leb, length, drop, get_or}
use Rattle.std.proofs.Common.{ap, ◌∙◌, arith, drop_of_length-le, add-one}
use Rattle.std.proofs.Math.Seq.{drop-cons}
use Rattle.std.proofs.Math.Facts.{and_yes, yes_and, leb_yes, leb_no}
use Rattle.lists.specs.Lists.{all}
use Rattle.lists.specs.ListsLaws.{by_test, yes_true, true_yes, no_false}
use Rattle.received.specs.Received.{column_next, column_after, lines_fit}
use Rattle.received.specs.Grammar.{LinesFit}

-- ---- columns

pub column_append : (column : ℕ) (x y : List ℕ) → column_after column (x ++ y) ≡ column_after (column_after column x) y
unfolding column_after
column_append column [] y = refl
column_append column (b ∷ x) y = column_append (column_next column b) x y

-- once past, it stays
pub column_past : (column : ℕ) (s : List ℕ) → 1000 ≤ column → column_after column s ≡ column
unfolding column_after column_next
column_past column [] h = refl
column_past column (b ∷ s) h = rw (lt-leb column 999 h) (column_past column s h)

abbrev pub in_line : ℕ → Bool
in_line b = not (eqb b 10)

pub column_run : (column : ℕ) (s : List ℕ) → T (all in_line s) → column + length s ≤ 1000 → column_after column s ≡ column + length s
unfolding column_after column_next
column_run column [] h k = omega arith
column_run column (b ∷ s) h k =
    let both = and_yes (in_line b) (all in_line s) h in
    rw (le-leb column 999 (omega arith), no_false (eqb b 10) both.0) (column_run (column + 1) s both.1 (omega arith) ∙ omega arith)

abbrev pub new_line : List ℕ
new_line = 13 ∷ 10 ∷ 32 ∷ []

pub line_starts : (column : ℕ) → column ≤ 998 → column_after column new_line ≡ 1
unfolding column_after column_next
line_starts column h = rw (le-leb column 999 (omega arith), le-leb (column + 1) 999 (omega arith))

at_last : 1000 ≤ column_after 999 new_line
unfolding column_after column_next
at_last = omega arith

pub line_past : (column : ℕ) → 999 ≤ column → 1000 ≤ column_after column new_line
line_past column h =
    by_test (leb 1000 column)
    (λ t. rw (column_past column new_line (leb_yes t)) (leb_yes t))
    (λ t. let e : column ≡ 999 = omega (arith, leb_no {a = 1000} {b = column} t) in rw e at_last)

-- as code goes

module _ (column b : ℕ) where
  pub column_stays : 999 < column → column ≡ column_next column b
  unfolding column_next
  column_stays h = rw (lt-leb column 999 h)

  pub column_ends : column ≤ 999 → b ≡ 10 → 0 ≡ column_next column b
  unfolding column_next
  column_ends h e = rw (le-leb column 999 h, eq-eqb b 10 e)

  pub column_goes : column ≤ 999 → (b ≡ 10 → ⊥) → column + 1 ≡ column_next column b
  unfolding column_next
  column_goes h e = rw (le-leb column 999 h, ne_eqb b 10 e)

module _ (column : ℕ) (s : List ℕ) (i : ℕ) where
  pub column_step : {next : ℕ} → i < length s → next ≡ column_next column (get_or s i 0) → column_after column (drop i s) ≡ column_after next (drop (i + 1) s)
  unfolding column_after
  column_step h e = rw (add-one, drop-cons s i 0 h, e)

  pub column_over : length s ≤ i → column_after column (drop i s) ≡ column
  unfolding column_after
  column_over h = rw (drop_of_length-le s {i = i} h)
