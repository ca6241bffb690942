-- Laws of parameters: by position, as code goes from space to space.
use Rattle.std.specs.Prelude.{◌≡◌, Bool, false, List, [], ◌∷◌, eqb, ltb, length, take, get_or}
use Rattle.std.proofs.Math.Path.{refl}
use Rattle.std.proofs.Common.{ap, ◌∙◌, not-suc-le-zero, add-one}
use Rattle.std.proofs.Math.Bool.{true}
use Prim.Native.Nat.{ℕ, zero, suc, ◌+◌, ◌-◌, ◌≤◌, ◌<◌, min}
use native.Mathlib.Omega.{arith}
use Rattle.std.proofs.Math.ListN.{drop, drop_of_length-le}
use Rattle.std.proofs.Math.Seq.{drop-cons, drop-drop, length-take-le}
use borrow.Author.Tests.{lt-ltb, le-ltb, eq-eqb, ne_eqb}
use Rattle.std.proofs.Math.Facts.{ltb_yes, ltb_no}
use Rattle.lists.specs.ListsLaws.{by_test, yes_true, no_false}
use Rattle.lists.specs.Lists.{all, nonempty}
use Rattle.lists.specs.Byte.{is_ascii}
use Rattle.buffer.specs.Buffer.{greatest}
use Rattle.letter_case.specs.LetterCase.{same_any_case}
use Rattle.line.specs.LineLaws.{drop_capped, part_rest}
use Rattle.lists.specs.Run.{run}
use Rattle.lists.specs.RunLaws.{run_le}
use Rattle.lists.specs.CutByLaws.{cut_nil, cut_next}
use Rattle.parameter.specs.Parameter.{not_space, spaced_len, params, spaced, is_keyword_byte, keyword_len, keyword, has_value, value, is_orcpt, is_alt, is_value_byte, is_param, alts, alt, alt_place, orcpt_clean}

-- ---- one parameter after another

-- where the parameter after a space at i ends; the parameter
unfoldable pub param_end : List ℕ → ℕ → ℕ
param_end s i = i + 1 + run not_space (drop (i + 1) s)

unfoldable pub param_at : List ℕ → ℕ → List ℕ
param_at s i = take (run not_space (drop (i + 1) s)) (drop (i + 1) s)

module _ (s : List ℕ) (i : ℕ) where
  pub params_at : i < length s → params (drop i s) ≡ param_at s i ∷ params (drop (param_end s i) s)
  unfolding params param_at param_end
  params_at h =
      let n = run not_space (drop (i + 1) s) in
      let to : i + 1 + n ≡ i + spaced_len (drop i s) = rw drop-drop (omega arith) in
      let m : i + 1 + n - i ≡ suc n = omega arith in
      rw (cut_next spaced_len s i (i + 1 + n) h to (omega arith), m, drop-cons s i 0 h, add-one)

  pub params_end : length s ≤ i → params (drop i s) ≡ []
  unfolding params
  params_end h = rw (drop_of_length-le s {i = i} h, cut_nil spaced_len)

  -- the parameter as code lends it
  pub param_part : (e : ℕ) → e ≡ i + 1 + run not_space (drop (i + 1) s) → take (e - (i + 1)) (drop (i + 1) s) ≡ param_at s i
  unfolding param_at
  param_part e k = let m : e - (i + 1) ≡ run not_space (drop (i + 1) s) = omega arith in rw m

  pub length_param : length (param_at s i) ≡ run not_space (drop (i + 1) s)
  unfolding param_at
  length_param = length-take-le (run not_space (drop (i + 1) s)) (drop (i + 1) s) (run_le not_space (drop (i + 1) s))

  -- ---- a test of every parameter; the parameter at i ends at e

  module _ (f : List ℕ → Bool) where
    pub each_step : (e : ℕ) → e ≡ i + 1 + run not_space (drop (i + 1) s) → i < length s → f (param_at s i) ≡ true → all f (params (drop i s)) ≡ all f (params (drop e s))
    unfolding param_end
    each_step e d h t = rw (params_at h, t, d)

    pub each_stop : i < length s → f (param_at s i) ≡ false → all f (params (drop i s)) ≡ false
    each_stop h t = rw (params_at h, t)

    pub each_end : length s ≤ i → all f (params (drop i s)) ≡ true
    each_end h = rw (params_end h)

  -- ---- ALT-ADDRESS

  pub alts_step : i < length s → is_alt (param_at s i) ≡ false → alts (params (drop i s)) ≡ alts (params (drop (param_end s i) s))
  unfolding alts
  alts_step h t = rw (params_at h, t)

  pub alts_here : i < length s → is_alt (param_at s i) ≡ true → alts (params (drop i s)) ≡ param_at s i ∷ alts (params (drop (param_end s i) s))
  unfolding alts
  alts_here h t = rw (params_at h, t)

  pub alts_end : length s ≤ i → alts (params (drop i s)) ≡ []
  unfolding alts
  alts_end h = rw (params_end h)

  pub place_step : i < length s → is_alt (param_at s i) ≡ false → i + alt_place (params (drop i s)) ≡ param_end s i + alt_place (params (drop (param_end s i) s))
  unfolding alt_place param_end
  place_step h t = rw (params_at h, t, length_param) (omega arith)

  pub place_here : i < length s → is_alt (param_at s i) ≡ true → i + alt_place (params (drop i s)) ≡ i
  unfolding alt_place
  place_here h t = rw (params_at h, t) (omega arith)

  pub place_end : length s ≤ i → i + alt_place (params (drop i s)) ≡ i
  unfolding alt_place
  place_end h = rw (params_end h) (omega arith)

-- The place r of the first ALT-ADDRESS parameter's space from `at` on; where there is none, r lies at the end or past it.
pub record AltFrom (s : List ℕ) (at r : ℕ) : Type 0 where
  pub place : r ≡ at + alt_place (params (drop at s))
  pub same : alts (params (drop at s)) ≡ alts (params (drop r s))
  pub here : r < length s → is_alt (param_at s r) ≡ true

module _ (s : List ℕ) (i r : ℕ) (e : r ≡ i + alt_place (params (drop i s))) where
  alt_end : length s ≤ i → AltFrom s i r
  alt_end h = let q : r ≡ i = e ∙ place_end s i h in record { place = e; same = rw q; here = λ l. absurd (omega arith) }

  alt_here : i < length s → is_alt (param_at s i) ≡ true → AltFrom s i r
  alt_here h t = let q : r ≡ i = e ∙ place_here s i h t in record { place = e; same = rw q; here = λ _. rw q t }

alt_found : (left : ℕ) (s : List ℕ) (i r : ℕ) → length s ≤ i + left → r ≡ i + alt_place (params (drop i s)) → AltFrom s i r
unfolding param_end
alt_found zero s i r h e = alt_end s i r e (omega arith)
alt_found (suc left) s i r h e =
    by_test (ltb i (length s))
    (λ t. let l = ltb_yes {a = i} {b = length s} t in
    by_test (is_alt (param_at s i)) (λ u. alt_here s i r e l (yes_true (is_alt (param_at s i)) u))
    (λ u. let no = no_false (is_alt (param_at s i)) u in
    let rest = alt_found left s (i + 1 + run not_space (drop (i + 1) s)) r (omega arith) (e ∙ place_step s i l no) in
    record { place = e; same = alts_step s i l no ∙ rest.same; here = rest.here }))
    (λ t. alt_end s i r e (ltb_no {a = i} {b = length s} t))

pub alt_from : {s : List ℕ} {at r : ℕ} → r ≡ at + alt_place (params (drop at s)) → AltFrom s at r
alt_from {s} {at} {r} e = alt_found (length s) s at r (omega arith) e

module _ {s : List ℕ} {at r : ℕ} (k : AltFrom s at r) where
  pub no_alts : length s ≤ r → alts (params (drop at s)) ≡ []
  no_alts h = k.same ∙ alts_end s r h

  pub first_alt : (e : ℕ) → e ≡ r + 1 + run not_space (drop (r + 1) s) → r < length s → alts (params (drop at s)) ≡ param_at s r ∷ alts (params (drop e s))
  unfolding param_end
  first_alt e d h = rw d (k.same ∙ alts_here s r h (k.here h))

  pub no_alt : length s ≤ r → alt (params (drop at s)) ≡ []
  unfolding alt
  no_alt h = rw (no_alts h)

  pub alt_there : r < length s → alt (params (drop at s)) ≡ param_at s r
  unfolding alt
  alt_there h = rw (first_alt (r + 1 + run not_space (drop (r + 1) s)) refl h)

  module _ (e : ℕ) (d : e ≡ r + 1 + run not_space (drop (r + 1) s)) (h : r < length s) {m : ℕ} (n : AltFrom s e m) where
    pub one_alt : length s ≤ m → alts (params (drop at s)) ≡ param_at s r ∷ []
    one_alt l = first_alt e d h ∙ ap (λ more. param_at s r ∷ more) (n.same ∙ alts_end s m l)

    pub two_alts : m < length s → alts (params (drop at s)) ≡ param_at s r ∷ param_at s m ∷ alts (params (drop (param_end s m) s))
    two_alts l = first_alt e d h ∙ ap (λ more. param_at s r ∷ more) (n.same ∙ alts_here s m l (n.here l))

-- ---- spaces

module _ (s : List ℕ) (i : ℕ) where
  pub spaced_at : i < length s → eqb (get_or s i 0) 32 ≡ spaced (drop i s)
  unfolding spaced
  spaced_at h = rw (drop-cons s i 0 h)

  pub spaced_end : length s ≤ i → true ≡ spaced (drop i s)
  unfolding spaced
  spaced_end h = rw (drop_of_length-le s {i = i} h)

-- ---- a test of every byte from a place on

module _ (f : ℕ → Bool) (s : List ℕ) (i : ℕ) where
  pub bytes_step : i < length s → f (get_or s i 0) ≡ true → all f (drop i s) ≡ all f (drop (i + 1) s)
  bytes_step h e = rw (add-one, drop-cons s i 0 h, e)

  pub bytes_stop : i < length s → f (get_or s i 0) ≡ false → all f (drop i s) ≡ false
  bytes_stop h e = rw (drop-cons s i 0 h, e)

  pub bytes_end : length s ≤ i → all f (drop i s) ≡ true
  bytes_end h = rw (drop_of_length-le s {i = i} h)

-- ---- keyword and value of a parameter

pub named : (word p : List ℕ) {front : List ℕ} {k : ℕ} {r : Bool} → k ≡ keyword_len p → front ≡ take (k - 0) p → r ≡ same_any_case word front → r ≡ same_any_case word (keyword p)
unfolding keyword
named word p {front} {k} e f q = let z : k - 0 ≡ keyword_len p = omega arith in q ∙ rw (f, z)

nonempty_take : (k : ℕ) (p : List ℕ) → (k ≡ 0 → ⊥) → k ≤ length p → nonempty (take k p) ≡ true
nonempty_take zero p h l = absurd (h refl)
nonempty_take (suc k) [] h l = absurd (not-suc-le-zero l)
nonempty_take (suc k) (b ∷ p) h l = refl

module _ (p : List ℕ) (k : ℕ) (e : k ≡ keyword_len p) where
  pub keyword_le : k ≤ length p
  unfolding keyword_len
  keyword_le = rw e (run_le is_keyword_byte p)

  pub value_from : (r : ℕ) → r ≡ min (k + 1) greatest → length p ≤ greatest → drop r p ≡ value p
  unfolding value
  value_from r q h = drop_capped p (k + 1) r q h ∙ rw e

  pub has_value_lem : k < length p → has_value p ≡ true
  unfolding has_value
  has_value_lem l = rw (← e) (lt-ltb k (length p) l)

  pub has_none : length p ≤ k → has_value p ≡ false
  unfolding has_value
  has_none l = rw (← e) (le-ltb k (length p) l)

  pub param_empty : k ≡ 0 → false ≡ is_param p
  unfolding is_param keyword
  param_empty z = rw (← e, z)

  module _ (some : k ≡ 0 → ⊥) where
    has_keyword : nonempty (keyword p) ≡ true
    unfolding keyword
    has_keyword = rw (← e) (nonempty_take k p some keyword_le)

    pub param_hyphen : get_or p 0 0 ≡ 45 → false ≡ is_param p
    unfolding is_param
    param_hyphen h = rw (has_keyword, eq-eqb (get_or p 0 0) 45 h)

    module _ (first : get_or p 0 0 ≡ 45 → ⊥) where
      pub param_bare : length p ≤ k → true ≡ is_param p
      unfolding is_param
      param_bare l = rw (has_keyword, ne_eqb (get_or p 0 0) 45 first, has_none l)

      module _ (l : k < length p) where
        pub param_unequal : (get_or p k 0 ≡ 61 → ⊥) → false ≡ is_param p
        unfolding is_param
        param_unequal n = rw (has_keyword, ne_eqb (get_or p 0 0) 45 first, has_value_lem l, ← e, ne_eqb (get_or p k 0) 61 n)

        module _ (q : get_or p k 0 ≡ 61) where
          pub param_no_value : length p ≤ k + 1 → false ≡ is_param p
          unfolding is_param value
          param_no_value m =
              rw (has_keyword, ne_eqb (get_or p 0 0) 45 first, has_value_lem l, ← e, eq-eqb (get_or p k 0) 61 q, drop_of_length-le p {i = k + 1} m)

          pub param_value : k + 1 < length p → {v : List ℕ} {o r : Bool} → v ≡ take (length p - (k + 1)) (drop (k + 1) p) → o ≡ is_orcpt p
              → r ≡ all (is_value_byte o) v → r ≡ is_param p
          unfolding is_param value
          param_value m {v} {o} {r} a b d =
              let w : v ≡ drop (k + 1) p = a ∙ part_rest p (k + 1) in
              let some_there : nonempty (drop (k + 1) p) ≡ true = rw (drop-cons p (k + 1) 0 m) in
              d ∙ rw (w, b, has_keyword, ne_eqb (get_or p 0 0) 45 first, has_value_lem l, ← e, eq-eqb (get_or p k 0) 61 q, some_there)

-- a value as code lends it
pub value_part : (p : List ℕ) {v : List ℕ} (r : ℕ) → v ≡ take (length p - r) (drop r p) → drop r p ≡ value p → v ≡ value p
value_part p r e d = e ∙ part_rest p r ∙ d

module _ (p : List ℕ) where
  pub orcpt_other : is_orcpt p ≡ false → true ≡ orcpt_clean p
  unfolding orcpt_clean
  orcpt_other e = rw e

  pub orcpt_value : {v : List ℕ} {r : Bool} → is_orcpt p ≡ true → v ≡ value p → r ≡ all is_ascii v → r ≡ orcpt_clean p
  unfolding orcpt_clean
  orcpt_value e f q = q ∙ rw (e, f)
