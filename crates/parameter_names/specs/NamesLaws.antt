-- Names one after another, each with its mark, are found again, and compared one by one.
use Rattle.std.proofs.Common.{lt-ltb, le-ltb, sym, ap, ◌∙◌, append_assoc, arith, length-append, drop_of_length-le}
use Rattle.std.specs.Prelude.{◌≡◌, refl, Bool, true, false, not, cond, ◌&&◌, List, [], ◌∷◌, ◌++◌, map, ℕ, ◌+◌, ◌-◌, ◌≤◌, ◌<◌, T, eqb, ltb, length, take, drop}
use Rattle.std.proofs.Math.Bool.{and-false}
use Rattle.std.proofs.Math.ListN.{length-drop}
use Rattle.std.proofs.Math.Seq.{take-append_seam, drop-append_seam}
use Rattle.std.proofs.Math.Facts.{and_yes, ltb_yes, ltb_no}
use Rattle.lists.specs.CutBy.{cut_by}
use Rattle.lists.specs.CutByLaws.{cut_nil, cut_front, cut_next}
use Rattle.lists.specs.Lists.{all, joined}
use Rattle.lists.specs.ListsLaws.{cond_has}
use Rattle.lists.specs.Run.{run}
use Rattle.lists.specs.RunLaws.{run_le, run_past}
use Rattle.letter_case.specs.LetterCase.{lower, same_any_case}
use Rattle.mime_parameter.specs.Extended.{is_token_byte}
use Rattle.parameter_names.specs.Names.{distinct, with_mark, marked, marked_len}

pub marked_append : (a b : List (List ℕ)) → marked (a ++ b) ≡ marked a ++ marked b
unfolding marked
marked_append [] b = refl
marked_append (n ∷ a) b = rw (marked_append a b) (sym (append_assoc (with_mark n) (marked a) (marked b)))

module _ (s : List ℕ) (at end : ℕ) (e : end ≡ at + run is_token_byte (drop at s)) where
  pub marked_last : length s ≤ end → end ≡ at + marked_len (drop at s)
  unfolding marked_len
  marked_last h = rw (le-ltb (run is_token_byte (drop at s)) (length (drop at s)) (rw length-drop (omega (arith, e)))) e

  pub marked_more : end < length s → end + 1 ≡ at + marked_len (drop at s)
  unfolding marked_len
  marked_more h = rw (lt-ltb (run is_token_byte (drop at s)) (length (drop at s)) (rw length-drop (omega (arith, e)))) (omega (arith, e))

pub marked_within : (s : List ℕ) → marked_len s ≤ length s
unfolding marked_len
marked_within s =
    cond_has (λ (n : ℕ). n ≤ length s) (ltb (run is_token_byte s) (length s)) (run is_token_byte s + 1) (run is_token_byte s)
    (λ t. omega (arith, ltb_yes {a = run is_token_byte s} {b = length s} t))
    (λ t. run_le is_token_byte s)

pub marked_some : (s : List ℕ) → 0 < length s → 0 < marked_len s
unfolding marked_len
marked_some s h =
    cond_has (λ (n : ℕ). 0 < n) (ltb (run is_token_byte s) (length s)) (run is_token_byte s + 1) (run is_token_byte s)
    (λ t. omega arith)
    (λ t. omega (arith, ltb_no {a = run is_token_byte s} {b = length s} t, h))

-- ---- compared with their marks

same_marked : (a b : List ℕ) → same_any_case (with_mark a) (with_mark b) ≡ same_any_case a b
unfolding same_any_case lower
same_marked [] [] = refl
same_marked [] (y ∷ []) = and-false (eqb (lower 61) (lower y))
same_marked [] (y ∷ z ∷ ys) = and-false (eqb (lower 61) (lower y))
same_marked (x ∷ []) [] = and-false (eqb (lower x) (lower 61))
same_marked (x ∷ z ∷ xs) [] = and-false (eqb (lower x) (lower 61))
same_marked (x ∷ xs) (y ∷ ys) = ap (λ (b : Bool). eqb (lower x) (lower y) && b) (same_marked xs ys)

all_marked : (name : List ℕ) (names : List (List ℕ)) → all (λ other. not (same_any_case (with_mark name) other)) (map with_mark names) ≡ all (λ other. not (same_any_case name other)) names
all_marked name [] = refl
all_marked name (n ∷ names) = rw (same_marked name n, all_marked name names)

distinct_marked : (names : List (List ℕ)) → distinct (map with_mark names) ≡ distinct names
unfolding distinct
distinct_marked [] = refl
distinct_marked (n ∷ names) = rw (all_marked n names, distinct_marked names)

-- ---- names of token bytes, gathered, are found again

mark_no_token : is_token_byte 61 ≡ false
unfolding is_token_byte
mark_no_token = refl

name_run_lem : (name rest : List ℕ) → T (all is_token_byte name) → run is_token_byte (with_mark name ++ rest) ≡ length name
unfolding run
name_run_lem name rest h =
    let parted : with_mark name ++ rest ≡ name ++ (61 ∷ rest) = append_assoc name (61 ∷ []) rest in
    rw (parted, run_past is_token_byte name (61 ∷ rest) h, mark_no_token) (omega arith)

name_size : (name rest : List ℕ) → T (all is_token_byte name) → marked_len (with_mark name ++ rest) ≡ length (with_mark name)
unfolding marked_len
name_size name rest h =
    let n = name_run_lem name rest h in
    let size : length (with_mark name ++ rest) ≡ length name + 1 + length rest = length-append (with_mark name) rest ∙ omega (arith, length-append name (61 ∷ [])) in
    rw (n, size, lt-ltb (length name) (length name + 1 + length rest) (omega arith)) (omega (arith, length-append name (61 ∷ [])))

cut_marked : (names : List (List ℕ)) → T (all (all is_token_byte) names) → cut_by marked_len (marked names) ≡ map with_mark names
unfolding marked
cut_marked [] h = cut_nil marked_len
cut_marked (n ∷ names) h =
    let both = and_yes (all is_token_byte n) (all (all is_token_byte) names) h in
    let size = name_size n (marked names) both.0 in
    let some : 0 < length (with_mark n) = omega (arith, length-append n (61 ∷ [])) in
    cut_front marked_len (with_mark n ++ marked names) (omega (arith, length-append (with_mark n) (marked names), some)) (rw size some)
    ∙ rw (size, take-append_seam (with_mark n) (marked names), drop-append_seam (with_mark n) (marked names), cut_marked names both.1)

pub gathered : (names : List (List ℕ)) → T (all (all is_token_byte) names) → distinct (cut_by marked_len (marked names)) ≡ distinct names
gathered names h = rw (cut_marked names h) (distinct_marked names)

-- ---- name by name

module _ (s : List ℕ) (i end : ℕ) (h : i < length s) (e : end ≡ i + marked_len (drop i s)) where
  pub marked_ahead : i < end
  marked_ahead = omega (arith, e, marked_some (drop i s) (rw length-drop (omega arith)))

  pub marked_inside : end ≤ length s
  marked_inside = omega (arith, e, marked_within (drop i s), length-drop i s)

  chunk : cut_by marked_len (drop i s) ≡ take (end - i) (drop i s) ∷ cut_by marked_len (drop end s)
  chunk = cut_next marked_len s i end h e marked_ahead

  pub differ_step : distinct (cut_by marked_len (drop i s)) ≡ all (λ other. not (same_any_case (take (end - i) (drop i s)) other)) (cut_by marked_len (drop end s)) && distinct (cut_by marked_len (drop end s))
  unfolding distinct
  differ_step = rw chunk

  pub new_step : (name : List ℕ) {r : Bool} → r ≡ same_any_case name (take (end - i) (drop i s))
      → all (λ other. not (same_any_case name other)) (cut_by marked_len (drop i s)) ≡ not r && all (λ other. not (same_any_case name other)) (cut_by marked_len (drop end s))
  new_step name q = rw (chunk, ← q)

module _ (s : List ℕ) (i : ℕ) (h : length s ≤ i) where
  no_chunk : cut_by marked_len (drop i s) ≡ []
  no_chunk = rw (drop_of_length-le s {i = i} h) (cut_nil marked_len)

  pub differ_end : true ≡ distinct (cut_by marked_len (drop i s))
  unfolding distinct
  differ_end = rw no_chunk

  pub new_end : (name : List ℕ) → true ≡ all (λ other. not (same_any_case name other)) (cut_by marked_len (drop i s))
  new_end name = rw no_chunk
