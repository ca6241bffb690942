-- White space and the run after it, at the front of a text.
use Rattle.std.specs.Prelude.{◌≡◌, refl, List, [], ◌∷◌, ◌++◌, Bool, ℕ, ◌+◌, ◌<◌, T, length, drop}
use Rattle.std.proofs.Common.{ap, ◌∙◌, append_assoc, append-nil, add-zero, arith, length-append, take_at, drop_at}
use Rattle.std.proofs.Math.Seq.{take-length, drop-length}
use Rattle.std.proofs.Math.Facts.{and_yes}
use Rattle.lists.specs.Lists.{all}
use Rattle.lists.specs.ListsLaws.{yes_true, no_false}
use Rattle.lists.specs.Run.{run}
use Rattle.lists.specs.RunLaws.{run_past}
use Rattle.downgraded_field.specs.Shown.{spacing, solid, Turn, turn_size, turn_at, turns_of}
use Rattle.downgraded_field.specs.ShownLaws.{turn_of, turns_front, turns_nil}

-- what follows a run: nothing, or white space
pub data Follows : List ℕ → Type 0 where
  nothing : Follows []
  space : {b : ℕ} {s : List ℕ} → T (spacing b) → Follows (b ∷ s)

pub run_stops : (f : ℕ → Bool) (a rest : List ℕ) → T (all f a) → run f rest ≡ 0 → run f (a ++ rest) ≡ length a
run_stops f a rest h e = run_past f a rest h ∙ omega (arith, e)

pub solid_none : {rest : List ℕ} → Follows rest → run solid rest ≡ 0
unfolding run
solid_none Follows.nothing = refl
solid_none (Follows.space {b} {s} t) = rw (yes_true (spacing b) t) refl

pub spacing_none : (a rest : List ℕ) → 0 < length a → T (all solid a) → run spacing (a ++ rest) ≡ 0
unfolding run
spacing_none [] rest h t = absurd (omega arith)
spacing_none (b ∷ a) rest h t = rw (no_false (spacing b) (and_yes (solid b) (all solid a) t).0) refl

cut_by_lem : (x : List ℕ) {t : Turn} {rest : List ℕ} → turn_at x ≡ t → drop (turn_size x) x ≡ rest → 0 < length x → turns_of x ≡ t ∷ turns_of rest
cut_by_lem x a b h = turns_front x h ∙ rw (a, b) refl

pub turn_cut : (gap word rest : List ℕ) → T (all spacing gap) → T (all solid word) → 0 < length word → Follows rest → turns_of (gap ++ (word ++ rest)) ≡ turn_of gap word ∷ turns_of rest
unfolding turn_size turn_at
turn_cut gap word rest g s filled f =
    let x = gap ++ (word ++ rest) in
    let a : run spacing x ≡ length gap = run_stops spacing gap (word ++ rest) g (spacing_none word rest filled s) in
    let after : drop (length gap) x ≡ word ++ rest = drop_at gap (word ++ rest) (length gap) refl in
    let b : run solid (word ++ rest) ≡ length word = run_stops solid word rest s (solid_none f) in
    let whole : turn_size x ≡ length gap + length word = rw (a, after, b) refl in
    let left : drop (length gap + length word) x ≡ rest =
    rw (← append_assoc gap word rest) (drop_at (gap ++ word) rest (length gap + length word) (length-append gap word)) in
    let full : 0 < length x = omega (arith, length-append gap (word ++ rest), length-append word rest) in
    cut_by_lem x (rw (a, after, b, take_at gap (word ++ rest) (length gap) refl, take_at word rest (length word) refl) refl) (ap (λ (n : ℕ). drop n x) whole ∙ left) full

-- white space at the end
pub turn_last : (gap : List ℕ) → T (all spacing gap) → 0 < length gap → turns_of gap ≡ turn_of gap [] ∷ []
unfolding turn_size turn_at run
turn_last gap g some =
    let a : run spacing gap ≡ length gap = rw (append-nil gap) at (run_stops spacing gap [] g refl) in
    let none : drop (length gap) gap ≡ [] = drop-length gap in
    let whole : turn_size gap ≡ length gap = rw (a, none) (add-zero (length gap)) in
    cut_by_lem gap (rw (a, none, take-length gap) refl) (ap (λ (n : ℕ). drop n gap) whole ∙ none) some ∙ ap (λ (ts : List Turn). turn_of gap [] ∷ ts) turns_nil
