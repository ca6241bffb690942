-- What is written for a line without fault, in which no ORCPT carries non-ASCII, is ASCII.
use Rattle.std.proofs.Math.Path.{◌≡◌, refl}
use Rattle.std.specs.Prelude.{Bool, true, ◌&&◌, eqb, leb, ltb, length, take, drop, get_or, Ok}
use Rattle.std.proofs.Math.Bool.{false}
use mathlib.Core.List.{List, [], ◌∷◌, ◌++◌}
use Prim.Native.Nat.{ℕ, suc, ◌+◌, ◌≤◌, ◌<◌}
use Rattle.std.proofs.Common.{add-one, arith, eqb→eq, take-append-drop, drop_of_length-le, drop-cons}
use Rattle.std.proofs.Math.Dec.{T}
use Rattle.std.proofs.Math.Seq.{drop-drop}
use Rattle.std.proofs.Math.Facts.{and_yes, yes_and, ltb_yes, yes_ltb, ltb_no}
use Rattle.std.proofs.lemmas.Bool.{not-false}
use Rattle.lists.specs.ListsLaws.{by_test, cond_has, true_yes, no_false, all_append, all_left, all_right}
use Rattle.lists.specs.Lists.{all}
use Rattle.lists.specs.Byte.{within, is_ascii}
use Rattle.lists.specs.ByteLaws.{within_high}
use Rattle.letter_case.specs.LetterCase.{bytes, lower, same_any_case}
use Rattle.rules.specs.declared.Rules.{Rules}
use Rattle.address.specs.Address.{is_address, is_ascii_address}
use Rattle.xtext.specs.Xtext.{decoded, is_xtext, is_alt_address}
use Rattle.envelope_line.specs.EnvelopeLine.{verb, verb_len, has_verb, path_len, path, tail, alt_fault, line_fault, orcpt_fault, new_path, without_alt, written_line}
use Rattle.parameter.specs.Parameter.{params, value, alts, alt, alt_place, orcpt_clean}
use Rattle.parameter.specs.AsciiLaws.{tail_ascii}
use Rattle.envelope_line.proofs.FaultLaws.{alt_taken, formed, closed, alt_fine}

module _ (f : ℕ → Bool) (n : ℕ) (s : List ℕ) (h : T (all f s)) where
  all_take : T (all f (take n s))
  all_take = all_left f (take n s) (drop n s) (rw take-append-drop h)

  all_drop : T (all f (drop n s))
  all_drop = all_right f (take n s) (drop n s) (rw take-append-drop h)

-- ---- verb

same_ascii : (xs ys : List ℕ) → T (same_any_case xs ys) → T (all is_ascii xs) → T (all is_ascii ys)
unfolding same_any_case lower
same_ascii [] [] t h = tt
same_ascii [] (y ∷ ys) t h = absurd t
same_ascii (x ∷ xs) [] t h = absurd t
same_ascii (x ∷ xs) (y ∷ ys) t h =
    let both = and_yes (eqb (lower x) (lower y)) (same_any_case xs ys) t in
    let here = and_yes (is_ascii x) (all is_ascii xs) h in
    let e = eqb→eq (lower x) (lower y) both.0 in
    let x_low = ltb_yes {a = x} {b = 128} here.0 in
    let low : lower x < 128 = cond_has (λ n. n < 128) (within 65 90 x) (x + 32) x (λ u. omega (arith, within_high 65 90 x u)) (λ u. x_low) in
    let up : y ≤ lower y = cond_has (λ n. y ≤ n) (within 65 90 y) (y + 32) y (λ u. omega arith) (λ u. omega arith) in
    yes_and (is_ascii y) (all is_ascii ys) (yes_ltb {a = y} {b = 128} (omega (arith, e, low, up))) (same_ascii xs ys both.1 here.1)

-- ---- the new path

module _ (rules : Rules) (ps : List (List ℕ)) where
  pub new_ascii : alt_fault rules false (alts ps) ≡ Ok tt → T (all is_ascii (decoded (value (alt ps))))
  unfolding alt_fault alt is_alt_address is_ascii_address
  new_ascii f = go (alts ps) refl
    where
      go : (found : List (List ℕ)) → alts ps ≡ found → T (all is_ascii (decoded (value (alt ps))))
      go [] e = absurd (let g = rw e at f in let z : ◌≡◌ {A = ℕ} 0 1 = cc in omega arith)
      go (p ∷ more) e =
          let v = value p in
          let t = (alt_taken rules false v (rw e at f)).is_address in
          rw e (and_yes (is_address (decoded v)) (all is_ascii (decoded v)) (and_yes (leb (length v) 998 && is_xtext v) (is_ascii_address (decoded v)) t).1).1

-- ---- the line

ascii_from : (s : List ℕ) (i : ℕ) → T (is_ascii (get_or s i 0)) → T (all is_ascii (drop (i + 1) s)) → T (all is_ascii (drop i s))
ascii_from s i b h =
    by_test (ltb i (length s)) (λ t. rw (drop-cons s i 0 (ltb_yes {a = i} {b = length s} t)) (yes_and (is_ascii (get_or s i 0)) (all is_ascii (drop (suc i) s)) b (rw add-one at h)))
    (λ t. rw (drop_of_length-le s {i = i} (ltb_no {a = i} {b = length s} t)) tt)

verb_ascii : (mail : Bool) → T (all is_ascii (verb mail))
unfolding verb bytes
verb_ascii true = tt
verb_ascii false = tt

module _ (rules : Rules) (mail : Bool) (line : List ℕ) (f : line_fault rules mail line ≡ Ok tt) where
  pub front_ascii : T (all is_ascii (take (verb_len mail) line))
  unfolding has_verb
  front_ascii = same_ascii (verb mail) (take (verb_len mail) line) (formed rules mail line f).has_verb_lem (verb_ascii mail)

  module _ (o : orcpt_fault mail line ≡ false) where
    rest_ascii : T (all is_ascii (tail mail line))
    unfolding orcpt_fault
    rest_ascii = tail_ascii (tail mail line) (formed rules mail line f).is_spaced_lem (formed rules mail line f).are_params_lem (true_yes (all orcpt_clean (params (tail mail line))) (not-false (all orcpt_clean (params (tail mail line))) o))

    closed_ascii : T (all is_ascii (drop (verb_len mail + path_len mail line) line))
    unfolding tail
    closed_ascii =
        let n = verb_len mail + path_len mail line in
        ascii_from line n (rw (closed rules mail line f) tt) rest_ascii

    -- "Out: an ASCII envelope": of a line
    pub line_ascii : T (all is_ascii (written_line mail line))
    unfolding written_line path new_path without_alt
    line_ascii =
        cond_has (λ out. T (all is_ascii out)) (all is_ascii (path mail line)) line (take (verb_len mail) line ++ (new_path mail line ++ (62 ∷ without_alt (tail mail line))))
        (λ t. let v = verb_len mail in let n = path_len mail line in
        let after : T (all is_ascii (drop n (drop v line))) = rw drop-drop closed_ascii in
        let from : T (all is_ascii (drop v line)) = rw (take-append-drop n (drop v line)) at (all_append is_ascii (take n (drop v line)) (drop n (drop v line)) t after) in
        rw (take-append-drop v line) at (all_append is_ascii (take v line) (drop v line) front_ascii from))
        (λ t. let ps = params (tail mail line) in
        let new = new_ascii rules ps (rw (no_false (all is_ascii (path mail line)) t) at (alt_fine rules mail line f)) in
        let n = alt_place ps in
        let m = alt_place ps + suc (length (alt ps)) in
        let others = all_append is_ascii (take n (tail mail line)) (drop m (tail mail line)) (all_take is_ascii n (tail mail line) rest_ascii) (all_drop is_ascii m (tail mail line) rest_ascii) in
        all_append is_ascii (take (verb_len mail) line) (new_path mail line ++ (62 ∷ without_alt (tail mail line))) front_ascii
        (all_append is_ascii (new_path mail line) (62 ∷ without_alt (tail mail line)) new others))
