-- The tail of a line, of well-formed parameters, in which no ORCPT carries non-ASCII, is ASCII.
use Rattle.std.specs.Prelude.{◌≡◌, Bool, true, false, not, ◌&&◌, ◌||◌, List, [], ◌∷◌, map, ℕ, zero, suc, pred, ◌+◌, ◌≤◌, ◌<◌, T, eqb, leb, ltb, length, take, drop, get_or}
use Rattle.std.proofs.Math.Bool.{and-false}
use Rattle.std.proofs.Common.{zero-le, suc-le-suc, add-one, eqb→eq, take-append-drop, drop_of_length-le, drop-cons}
use native.Mathlib.Omega.{arith}
use Rattle.std.proofs.Math.Facts.{and_yes, yes_and, ltb_yes, ltb_no}
use borrow.Author.Tests.{lt-leb, ne_eqb, eqb-true, not-false}
use Rattle.lists.specs.ListsLaws.{by_test, yes_true, all_append, all_weaken}
use Rattle.lists.specs.Lists.{all, nonempty}
use Rattle.lists.specs.Byte.{is_ascii}
use Rattle.lists.specs.Run.{run}
use Rattle.lists.specs.RunLaws.{run_all, run_after}
use Rattle.lists.specs.CutBy.{cut_by, cut_after}
use Rattle.parameter.specs.Parameter.{not_space, spaced_len, params, spaced, is_keyword_byte, keyword_len, keyword, has_value, value, is_orcpt, is_value_byte, is_param, orcpt_clean}

module _ (b : ℕ) where
  keyword_ascii : T (is_keyword_byte b) → T (is_ascii b)
  unfolding is_keyword_byte
  keyword_ascii t = by_test (is_ascii b) (λ u. u) (λ u. absurd (
      let h = ltb_no {a = b} {b = 128} u in
      let n : b ≡ 45 → ⊥ = λ e. omega arith in
      rw (lt-leb b 90 (omega arith), lt-leb b 122 (omega arith), lt-leb b 57 (omega arith), and-false (leb 65 b), and-false (leb 97 b), and-false (leb 48 b), ne_eqb b 45 n) at t))

  value_ascii : T (is_value_byte false b) → T (is_ascii b)
  unfolding is_value_byte
  value_ascii t = by_test (is_ascii b) (λ u. u) (λ u. absurd (
      let h = ltb_no {a = b} {b = 128} u in
      rw (lt-leb b 126 (omega arith), and-false (leb 33 b)) at t))

-- the value of a parameter that is no ORCPT with non-ASCII
value_all : (p v : List ℕ) → T (all (is_value_byte (is_orcpt p)) v) → T (not (is_orcpt p) || all is_ascii v) → T (all is_ascii v)
value_all p v a o = go (is_orcpt p) a o
  where
    go : (orcpt : Bool) → T (all (is_value_byte orcpt) v) → T (not orcpt || all is_ascii v) → T (all is_ascii v)
    go true a o = o
    go false a o = all_weaken (is_value_byte false) is_ascii value_ascii v a

-- a keyword, and `=` with a value
module _ (p : List ℕ) (k : ℕ) (word : T (all is_ascii (take k p))) where
  joined_ascii : T (all is_ascii (drop k p)) → T (all is_ascii p)
  joined_ascii h = rw (take-append-drop k p) at (all_append is_ascii (take k p) (drop k p) word h)

  bare_ascii : length p ≤ k → T (all is_ascii p)
  bare_ascii l = joined_ascii (rw (drop_of_length-le p {i = k} l) tt)

  valued_ascii : k < length p → get_or p k 0 ≡ 61 → T (all is_ascii (drop (k + 1) p)) → T (all is_ascii p)
  valued_ascii l e h = joined_ascii (rw (drop-cons p k 0 l, e) (rw add-one at h))

-- a parameter that is no ORCPT with non-ASCII
param_ascii : (p : List ℕ) → T (is_param p) → T (orcpt_clean p) → T (all is_ascii p)
unfolding is_param orcpt_clean has_value value keyword_len
param_ascii p t o =
    let k = run is_keyword_byte p in
    let word : T (all is_ascii (take k p)) = all_weaken is_keyword_byte is_ascii keyword_ascii (take k p) (run_all is_keyword_byte p) in
    let equals = eqb (get_or p k 0) 61 in
    let some_there = nonempty (drop (k + 1) p) in
    let bytes_ok = all (is_value_byte (is_orcpt p)) (drop (k + 1) p) in
    let rest : T (not (ltb k (length p)) || equals && some_there && bytes_ok) =
    (and_yes (nonempty (keyword p) && not (eqb (get_or p 0 0) 45)) (not (ltb k (length p)) || equals && some_there && bytes_ok) t).1 in
    by_test (ltb k (length p))
    (λ u. let v : T (equals && some_there && bytes_ok) = rw (yes_true (ltb k (length p)) u) at rest in
    let both = and_yes (equals && some_there) bytes_ok v in
    let sign = eqb→eq (get_or p k 0) 61 (and_yes equals some_there both.0).0 in
    valued_ascii p k word (ltb_yes {a = k} {b = length p} u) sign (value_all p (drop (k + 1) p) both.1 o))
    (λ u. bare_ascii p k word (ltb_no {a = k} {b = length p} u))

-- The bytes of a text whose parameters are ASCII, after k bytes of the parameter before; the byte after these is ASCII.
after_ascii : (k : ℕ) (s : List ℕ) → T (all is_ascii (take k s)) → (k < length s → T (is_ascii (get_or s k 0))) → T (all (all is_ascii) (map (drop 1) (cut_after spaced_len k s))) → T (all is_ascii s)
unfolding cut_after
after_ascii k [] h b a = tt
after_ascii (suc k) (x ∷ s) h b a =
    let both = and_yes (is_ascii x) (all is_ascii (take k s)) h in
    yes_and (is_ascii x) (all is_ascii s) both.0 (after_ascii k s both.1 (λ l. b (suc-le-suc l)) a)
after_ascii zero (x ∷ s) h b a =
    let n = run not_space s in
    let m : pred (n + 1) ≡ n = rw add-one in
    let both = and_yes (all is_ascii (take n s)) (all (all is_ascii) (map (drop 1) (cut_after spaced_len n s))) (rw m at a) in
    let space : n < length s → T (is_ascii (get_or s n 0)) = λ l. rw (eqb-true (get_or s n 0) 32 (not-false (eqb (get_or s n 0) 32) (run_after not_space s l))) tt in
    yes_and (is_ascii x) (all is_ascii s) (b (suc-le-suc zero-le)) (after_ascii n s both.0 space both.1)

each_ascii : (ps : List (List ℕ)) → T (all is_param ps) → T (all orcpt_clean ps) → T (all (all is_ascii) ps)
each_ascii [] h o = tt
each_ascii (p ∷ ps) h o =
    let a = and_yes (is_param p) (all is_param ps) h in
    let b = and_yes (orcpt_clean p) (all orcpt_clean ps) o in
    yes_and (all is_ascii p) (all (all is_ascii) ps) (param_ascii p a.0 b.0) (each_ascii ps a.1 b.1)

pub tail_ascii : (t : List ℕ) → T (spaced t) → T (all is_param (params t)) → T (all orcpt_clean (params t)) → T (all is_ascii t)
unfolding spaced params cut_by
tail_ascii [] s h o = tt
tail_ascii (x ∷ t) s h o = after_ascii 0 (x ∷ t) tt (λ l. rw (eqb→eq x 32 s) tt) (each_ascii (map (drop 1) (cut_after spaced_len 0 (x ∷ t))) h o)
