-- Laws of the first parameter that meets a test.
use Rattle.std.specs.Prelude.{◌≡◌, refl, Bool, true, false, not, List, [], ◌∷◌, ℕ, zero, suc, ◌+◌, ◌≤◌, ◌<◌, ltb, length, drop, Option, Some, None, is_some}
use Rattle.std.proofs.Common.{ap, sym, ◌∙◌, arith, lt-ltb, le-ltb}
use Rattle.std.proofs.Math.Facts.{ltb_yes, ltb_no}
use Rattle.lists.specs.Lists.{all}
use Rattle.lists.specs.ListsLaws.{by_test, yes_true, no_false}
use Rattle.lists.specs.Run.{run}
use Rattle.parameter.specs.Parameter.{not_space, params, is_alt, alt_place}
use Rattle.parameter.specs.ParameterLaws.{param_end, param_at, params_at, params_end, length_param, place_step, place_here, place_end, AltFrom, alt_from}
use Rattle.parameter.specs.First.{first_of, in_line}

module _ (f : List ℕ → Bool) (s : List ℕ) (i : ℕ) where
  pub first_step : (e : ℕ) → e ≡ i + 1 + run not_space (drop (i + 1) s) → i < length s → f (param_at s i) ≡ false
      → first_of f i (params (drop i s)) ≡ first_of f e (params (drop e s))
  unfolding first_of param_end
  first_step e d h t =
      let to : i + suc (length (param_at s i)) ≡ e = rw length_param (omega arith) in
      rw (params_at s i h, t, to, ← d)

  pub first_here : i < length s → f (param_at s i) ≡ true → first_of f i (params (drop i s)) ≡ Some i
  unfolding first_of
  first_here h t = rw (params_at s i h, t)

  pub first_end : length s ≤ i → first_of f i (params (drop i s)) ≡ None
  unfolding first_of
  first_end h = rw (params_end s i h)

-- some parameter fails a test, or all meet it
some_fails : (g : List ℕ → Bool) (at : ℕ) (ps : List (List ℕ)) → is_some (first_of (λ p. not (g p)) at ps) ≡ not (all g ps)
unfolding first_of
some_fails g at [] = refl
some_fails g at (p ∷ ps) =
    by_test (g p)
    (λ t. rw (yes_true (g p) t) (some_fails g (at + suc (length p)) ps))
    (λ t. rw (no_false (g p) t))

same_not : (a b : Bool) → not a ≡ not b → a ≡ b
same_not true true e = refl
same_not true false e = absurd (cc)
same_not false true e = absurd (cc)
same_not false false e = refl

-- as code finds it
pub all_meet : (g : List ℕ → Bool) (at : ℕ) (ps : List (List ℕ)) {o : Option ℕ} {r : Bool} → o ≡ first_of (λ p. not (g p)) at ps → is_some o ≡ not r → r ≡ all g ps
all_meet g at ps {o} {r} e q = same_not r (all g ps) (sym q ∙ ap is_some e ∙ some_fails g at ps)

-- ---- a place of a line

module _ (line : List ℕ) (at : ℕ) where
  in_yes : at < length line → in_line line at ≡ Some at
  unfolding in_line
  in_yes h = rw (lt-ltb at (length line) h)

  in_no : length line ≤ at → in_line line at ≡ None
  unfolding in_line
  in_no h = rw (le-ltb at (length line) h)

  pub in_line_some : {r : ℕ} → Some r ≡ in_line line at → (r ≡ at) × (at < length line)
  in_line_some {r} e =
      by_test (ltb at (length line))
      (λ t. let h = ltb_yes {a = at} {b = length line} t in
      let q : Some r ≡ Some at = e ∙ in_yes h in
      let same : r ≡ at = cc in
      (same, h))
      (λ t. absurd (let q : Some r ≡ None = e ∙ in_no (ltb_no {a = at} {b = length line} t) in cc))

  pub in_line_none : None ≡ in_line line at → length line ≤ at
  in_line_none e =
      by_test (ltb at (length line))
      (λ t. absurd (let q : ◌≡◌ {A = Option ℕ} None (Some at) = e ∙ in_yes (ltb_yes {a = at} {b = length line} t) in cc))
      (λ t. ltb_no {a = at} {b = length line} t)

-- ---- ALT-ADDRESS

alt_past : (s : List ℕ) (i : ℕ) → length s ≤ i → first_of is_alt i (params (drop i s)) ≡ in_line s (i + alt_place (params (drop i s)))
alt_past s i h = first_end is_alt s i h ∙ sym (ap (in_line s) (place_end s i h) ∙ in_no s i h)

first_alt_from : (left : ℕ) (s : List ℕ) (i : ℕ) → length s ≤ i + left → first_of is_alt i (params (drop i s)) ≡ in_line s (i + alt_place (params (drop i s)))
unfolding param_end
first_alt_from zero s i h = alt_past s i (omega arith)
first_alt_from (suc left) s i h =
    by_test (ltb i (length s))
    (λ t. let l = ltb_yes {a = i} {b = length s} t in
    by_test (is_alt (param_at s i))
    (λ u. let yes = yes_true (is_alt (param_at s i)) u in
    first_here is_alt s i l yes ∙ sym (ap (in_line s) (place_here s i l yes) ∙ in_yes s i l))
    (λ u. let no = no_false (is_alt (param_at s i)) u in
    let e = i + 1 + run not_space (drop (i + 1) s) in
    first_step is_alt s i e refl l no ∙ first_alt_from left s e (omega arith) ∙ ap (in_line s) (sym (place_step s i l no))))
    (λ t. alt_past s i (ltb_no {a = i} {b = length s} t))

pub first_alt_place : (s : List ℕ) (at : ℕ) → first_of is_alt at (params (drop at s)) ≡ in_line s (at + alt_place (params (drop at s)))
first_alt_place s at = first_alt_from (length s) s at (omega arith)

module _ {s : List ℕ} {at : ℕ} where
  pub alt_found : {r : ℕ} → Some r ≡ in_line s (at + alt_place (params (drop at s))) → AltFrom s at r × (r < length s)
  alt_found e = let k = in_line_some s (at + alt_place (params (drop at s))) e in (alt_from k.0, omega arith)

  pub alt_missing : None ≡ in_line s (at + alt_place (params (drop at s))) → AltFrom s at (at + alt_place (params (drop at s))) × (length s ≤ at + alt_place (params (drop at s)))
  alt_missing e = (alt_from refl, in_line_none s (at + alt_place (params (drop at s))) e)

  -- whether there is one
  pub alt_some : {o : Option ℕ} → o ≡ in_line s (at + alt_place (params (drop at s))) → is_some o ≡ true → AltFrom s at (at + alt_place (params (drop at s))) × (at + alt_place (params (drop at s)) < length s)
  alt_some {o = Some r} e q = (alt_from refl, (in_line_some s (at + alt_place (params (drop at s))) e).1)
  alt_some {o = None} e q = absurd (cc)

  pub alt_none : {o : Option ℕ} → o ≡ in_line s (at + alt_place (params (drop at s))) → is_some o ≡ false → AltFrom s at (at + alt_place (params (drop at s))) × (length s ≤ at + alt_place (params (drop at s)))
  alt_none {o = Some r} e q = absurd (cc)
  alt_none {o = None} e q = alt_missing e
