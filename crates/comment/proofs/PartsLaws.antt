-- Laws of the parts of a comment, by position, as code goes through them.
use Rattle.std.proofs.Common.{le-leb, leb-true, leb-false, sym, ◌∙◌, arith, drop_of_length-le, length-drop, drop-cons, take_all}
use Rattle.std.proofs.lemmas.Bool.{lt-leb}
use Rattle.std.specs.Prelude.{◌≡◌, Bool, true, false, cond, ◌&&◌, List, [], ◌∷◌, ℕ, suc, ◌+◌, ◌-◌, ◌≤◌, ◌<◌, leb, length, take, drop}
use Rattle.std.proofs.Math.ListN.{get_or}
use Rattle.lists.specs.CutByLaws.{cut_nil, cut_next, cut_joined}
use Rattle.lists.specs.Lists.{all, joined}
use Rattle.lists.specs.ListsLaws.{by_test, yes_true, no_false, all_at_lem}
use Rattle.lists.specs.Run.{run}
use Rattle.lists.specs.RunLaws.{run_all, run_after}
use Rattle.line.specs.Line.{blank}
use Rattle.unquote.specs.Unquote.{escapes}
use Rattle.comment.specs.Comment.{is_paren, run_to, run_len}
use Rattle.comment.proofs.CommentLaws.{run_within}
use Rattle.comment.specs.Parts.{part_len, parts, is_blank_run, fits}

-- ---- the part at the front

-- a part has a byte
pub part_some : (b : ℕ) (s : List ℕ) → 0 < part_len (b ∷ s)
unfolding part_len run_len run_to
part_some b s = go (is_paren b) (run_to is_paren (escapes false b) s)
  where
    go : (x : Bool) (n : ℕ) → 0 < cond x 1 (cond (x && true) 0 (suc n))
    go true n = omega arith
    go false n = omega arith

part_within : (b : ℕ) (s : List ℕ) → part_len (b ∷ s) ≤ length (b ∷ s)
unfolding part_len run_len
part_within b s = go (is_paren b) (run_to is_paren false (b ∷ s)) (run_within is_paren (b ∷ s) false)
  where
    go : (x : Bool) (n : ℕ) → n ≤ length (b ∷ s) → cond x 1 n ≤ length (b ∷ s)
    go true n h = omega arith
    go false n h = h

-- ---- by position

module _ (s : List ℕ) (i : ℕ) where
  pub part_over : length s ≤ i → i + part_len (drop i s) ≡ i
  unfolding part_len run_len run_to
  part_over h = rw (drop_of_length-le s {i = i} h) (omega arith)

  pub parts_over : length s ≤ i → parts (drop i s) ≡ []
  unfolding parts
  parts_over h = rw (drop_of_length-le s {i = i} h) (cut_nil part_len)

  module _ (h : i < length s) where
    -- a part as code finds it: by the byte at i
    pub part_paren : is_paren (get_or s i 0) ≡ true → i + part_len (drop i s) ≡ i + 1
    unfolding part_len
    part_paren t = rw (drop-cons s i 0 h, t)

    pub part_run : is_paren (get_or s i 0) ≡ false → i + part_len (drop i s) ≡ i + run_len (drop i s)
    unfolding part_len
    part_run t = let first : get_or (drop i s) 0 0 ≡ get_or s i 0 = rw (drop-cons s i 0 h) in rw (first, t)

    -- the part from i to e
    module _ (e : ℕ) (r : e ≡ i + part_len (drop i s)) where
      pub part_beyond : i < e
      part_beyond =
          let some : 0 < part_len (drop i s) = rw (drop-cons s i 0 h) (part_some (get_or s i 0) (drop (suc i) s)) in
          omega arith

      pub part_end_within : e ≤ length s
      part_end_within =
          let most : part_len (drop i s) ≤ length (drop i s) = rw (drop-cons s i 0 h) (part_within (get_or s i 0) (drop (suc i) s)) in
          omega (arith, length-drop i s)

      -- and the parts from e on
      pub parts_next : parts (drop i s) ≡ take (e - i) (drop i s) ∷ parts (drop e s)
      unfolding parts
      parts_next = cut_next part_len s i e h r part_beyond

      -- `t` is the test of the part
      pub fit_at : (t : Bool) → t ≡ fits (take (e - i) (drop i s)) → all fits (parts (drop i s)) ≡ t && all fits (parts (drop e s))
      fit_at t q = rw (parts_next, ← q)

  pub fit_over : length s ≤ i → all fits (parts (drop i s)) ≡ true
  fit_over h = rw (parts_over h)

-- the parts together are the comment
pub parts_joined : (comment : List ℕ) → joined (parts comment) ≡ comment
unfolding parts
parts_joined comment = cut_joined part_len comment

-- ---- tests of a part

-- all bytes pass a test where the run of those that do goes to the end
module _ (f : ℕ → Bool) (s : List ℕ) where
  run_to_end : length s ≤ run f s → all f s ≡ true
  run_to_end h = rw (take_all (run f s) s h) at (yes_true (all f (take (run f s) s)) (run_all f s))

  run_before_end : run f s < length s → all f s ≡ false
  run_before_end h =
      by_test (all f s)
      (λ t. let z : ◌≡◌ {A = Bool} true false = sym (yes_true (f (get_or s (run f s) 0)) (all_at_lem f s (run f s) 0 t h)) ∙ run_after f s h in
      absurd (let n : ◌≡◌ {A = ℕ} 0 1 = cc in omega arith))
      (no_false (all f s))

pub blank_run : (part : List ℕ) (e : ℕ) → e ≡ 0 + run blank (drop 0 part) → leb (length part) e ≡ is_blank_run part
unfolding is_blank_run
blank_run part e r =
    let n : e ≡ run blank part = omega arith in
    by_test (leb (length part) e)
    (λ t. let k = yes_true (leb (length part) e) t in k ∙ sym (run_to_end blank part (omega (arith, leb-true (length part) e k))))
    (λ t. let k = no_false (leb (length part) e) t in k ∙ sym (run_before_end blank part (omega (arith, leb-false (length part) e k))))

module _ (part : List ℕ) where
  pub fits_short : length part ≤ 900 → fits part ≡ true
  unfolding fits
  fits_short h = rw (le-leb (length part) 900 h)

  pub fits_long : 900 < length part → fits part ≡ is_blank_run part
  unfolding fits
  fits_long h = rw (lt-leb (length part) 900 h)
