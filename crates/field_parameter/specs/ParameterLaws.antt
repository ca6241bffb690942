-- Parameters by position, as code finds them.
use borrow.Author.Tests.{eq-eqb, ne_eqb, lt-ltb, le-ltb}
use Rattle.std.specs.Prelude.{◌≡◌, refl, Some, None, Bool, true, not, cond, ◌&&◌, ◌||◌, ℕ, zero, suc, ◌+◌, ◌-◌, ◌≤◌, ◌<◌, T, eqb, ltb, get_or}
use Rattle.std.proofs.Common.{sym, ap, ◌∙◌, not-suc-le-zero, arith, drop-drop, get_or-drop}
use Rattle.std.proofs.Math.Bool.{false, and-false}
use mathlib.Core.List.{List, [], ◌∷◌}
use Rattle.std.proofs.Math.ListN.{length, take, drop, length-drop, drop_of_length-le}
use Rattle.std.proofs.Math.Seq.{take_all}
use Rattle.std.proofs.Math.Facts.{and_yes, ltb_yes}
use Rattle.lists.specs.Byte.{is_ascii}
use Rattle.lists.specs.Lists.{all}
use Rattle.lists.specs.ListsLaws.{by_test, cond_yes, cond_no, cond_has, yes_true, no_false, true_yes}
use Rattle.lists.specs.Run.{run}
use Rattle.lists.specs.RunLaws.{run_le}
use Rattle.comment.specs.Comment.{end_of, run_to}
use Rattle.comment.proofs.CommentLaws.{run_within}
use Rattle.structured_token.specs.declared.Kind.{Kind}
use Rattle.structured_token.specs.Tokens.{is_quote, kind_of}
use Rattle.mime_parameter.specs.Extended.{is_token_byte}
use Rattle.field_parameter.specs.Parameter.{is_value_byte, closed_len, value_len, ends_value, parameter_len, value_of, is_converted, converted_next}

-- ---- an end as code answers it

pub none_here : (at n : ℕ) → at ≡ at + n → None ≡ end_of at n
none_here at n e = let z : n ≡ 0 = omega arith in rw z

pub ends_here : (at n : ℕ) {e : ℕ} → e ≡ at + n → at < e → Some e ≡ end_of at n
ends_here at zero {e} q h = absurd (not-suc-le-zero {n = 0} (omega (arith, q, h)))
ends_here at (suc n) q h = ap Some q

-- ---- the value at a place

module _ (s : List ℕ) (at : ℕ) where
  at_end_lem : length s ≤ at → drop at s ≡ []
  at_end_lem h = drop_of_length-le s {i = at} h

  first : get_or (drop at s) 0 0 ≡ get_or s at 0
  first = get_or-drop at s 0 0 ∙ ap (λ (n : ℕ). get_or s n 0) zero_right
    where
      zero_right : at + 0 ≡ at
      zero_right = omega arith

  pub value_none : length s ≤ at → at ≡ at + value_len (drop at s)
  unfolding value_len run
  value_none h = rw (at_end_lem h) (omega arith)

  module _ (h : at < length s) where
    pub value_run : (get_or s at 0 ≡ 34 → ⊥) → (r : ℕ) → r ≡ at + run is_value_byte (drop at s) → r ≡ at + value_len (drop at s)
    unfolding value_len
    value_run n r e = rw (first, ne_eqb (get_or s at 0) 34 n) e

    module _ (q : get_or s at 0 ≡ 34) (end : ℕ) (e : end ≡ at + 1 + run_to is_quote false (drop (at + 1) s)) where
      next : drop 1 (drop at s) ≡ drop (at + 1) s
      next = drop-drop 1 at s

      is_closed_lem : value_len (drop at s) ≡ closed_len (drop at s)
      unfolding value_len
      is_closed_lem = rw (first, eq-eqb (get_or s at 0) 34 q)

      pub value_unclosed : length s ≤ end → at ≡ at + value_len (drop at s)
      unfolding closed_len
      value_unclosed k =
          let n = run_to is_quote false (drop (at + 1) s) in
          let over : length (drop at s) ≤ n + 1 = rw length-drop (omega (arith, e, k)) in
          rw (is_closed_lem, next, le-ltb (n + 1) (length (drop at s)) over) (omega arith)

      pub value_closed : end < length s → end + 1 ≡ at + value_len (drop at s)
      unfolding closed_len
      value_closed k =
          let n = run_to is_quote false (drop (at + 1) s) in
          let in_it : n + 1 < length (drop at s) = rw length-drop (omega (arith, e, k)) in
          rw (is_closed_lem, next, lt-ltb (n + 1) (length (drop at s)) in_it) (omega (arith, e))

-- a value lies in its text
value_within : (s : List ℕ) → value_len s ≤ length s
unfolding value_len closed_len
value_within s =
    cond_has (λ (n : ℕ). n ≤ length s) (is_quote (get_or s 0 0)) (closed_len s) (run is_value_byte s)
    (λ t. cond_has (λ (n : ℕ). n ≤ length s) (ltb (run_to is_quote false (drop 1 s) + 1) (length s)) (run_to is_quote false (drop 1 s) + 2) 0
    (λ u. omega (arith, ltb_yes {a = run_to is_quote false (drop 1 s) + 1} {b = length s} u))
    (λ u. omega arith))
    (λ t. run_le is_value_byte s)

-- ---- the parameter at a place

module _ (comments : Bool) (s : List ℕ) (at name : ℕ) (hn : name ≡ at + run is_token_byte (drop at s)) where
  abbrev Found : ℕ → Type 0
  Found r = (r ≡ at + parameter_len comments (drop at s)) × (at ≤ length s → r ≤ length s)

  none_if : parameter_len comments (drop at s) ≡ 0 → Found at
  none_if e = (omega (arith, e), λ h. h)

  pub no_name : name ≡ at → Found at
  unfolding parameter_len
  no_name e = none_if (let z : run is_token_byte (drop at s) ≡ 0 = omega (arith, hn, e) in rw z)

  named : ℕ
  named = run is_token_byte (drop at s)

  there : get_or (drop at s) (run is_token_byte (drop at s)) 0 ≡ get_or s name 0
  there = get_or-drop at s (run is_token_byte (drop at s)) 0 ∙ rw (← hn)

  and_second : (a b : Bool) → b ≡ false → a && b ≡ false
  and_second a b e = rw (e, and-false a)

  no_equals : (get_or s name 0 ≡ 61 → ⊥) → Found at
  unfolding parameter_len
  no_equals n = none_if (rw (there, ne_eqb (get_or s name 0) 61 n, and-false (ltb 0 (run is_token_byte (drop at s)))))

  pub ends_name : length s ≤ name → Found at
  ends_name h = no_equals (λ e. not-suc-le-zero {n = 0} (omega (arith, past_end_lem, e)))
    where
      past_end_lem : get_or s name 0 ≡ 0
      past_end_lem = get_d_past s name h
        where
          get_d_past : (s : List ℕ) (i : ℕ) → length s ≤ i → get_or s i 0 ≡ 0
          get_d_past [] i h = refl
          get_d_past (x ∷ s) zero h = absurd (not-suc-le-zero h)
          get_d_past (x ∷ s) (suc i) h = get_d_past s i (omega arith)

  pub no_mark : (get_or s name 0 ≡ 61 → ⊥) → Found at
  no_mark n = no_equals n

  module _ (o : name ≡ at → ⊥) (h : name < length s) (q : get_or s name 0 ≡ 61) (end : ℕ) (he : end ≡ name + 1 + value_len (drop (name + 1) s)) where
    value : drop (run is_token_byte (drop at s) + 1) (drop at s) ≡ drop (name + 1) s
    value = drop-drop (run is_token_byte (drop at s) + 1) at s ∙ ap (λ (n : ℕ). drop n s) place
      where
        place : at + (run is_token_byte (drop at s) + 1) ≡ name + 1
        place = omega (arith, hn)

    some : ltb 0 (run is_token_byte (drop at s)) ≡ true
    some = lt-ltb 0 (run is_token_byte (drop at s)) (go (run is_token_byte (drop at s)) hn)
      where
        go : (n : ℕ) → name ≡ at + n → 0 < n
        go zero e = absurd (o (omega (arith, e)))
        go (suc n) e = omega arith

    pub no_value : end ≡ name + 1 → Found at
    unfolding parameter_len
    no_value e =
        let z : value_len (drop (name + 1) s) ≡ 0 = omega (arith, he, e) in
        none_if (rw (some, there, eq-eqb (get_or s name 0) 61 q, value, z))

    module _ (v : end ≡ name + 1 → ⊥) {kind : Kind} {r : Bool} (hk : kind ≡ kind_of comments (drop end s)) (hr : r ≡ ends_value kind) where
      after : drop (value_len (drop (name + 1) s)) (drop (name + 1) s) ≡ drop end s
      after = drop-drop (value_len (drop (name + 1) s)) (name + 1) s ∙ rw (← he)

      filled : ltb 0 (value_len (drop (name + 1) s)) ≡ true
      filled = lt-ltb 0 (value_len (drop (name + 1) s)) (go (value_len (drop (name + 1) s)) he)
        where
          go : (n : ℕ) → end ≡ name + 1 + n → 0 < n
          go zero e = absurd (v (omega (arith, e)))
          go (suc n) e = omega arith

      ending : ends_value (kind_of comments (drop end s)) ≡ r
      ending = rw (← hk) (sym hr)

      pub goes_on_lem : r ≡ false → Found at
      unfolding parameter_len
      goes_on_lem e = none_if (rw (some, there, eq-eqb (get_or s name 0) 61 q, value, filled, after, ending, e))

      pub found : r ≡ true → Found end
      unfolding parameter_len
      found e =
          let n = run is_token_byte (drop at s) in
          let size : parameter_len comments (drop at s) ≡ n + 1 + value_len (drop (name + 1) s) = rw (some, there, eq-eqb (get_or s name 0) 61 q, value, filled, after, ending, e) in
          (omega (arith, size, hn, he), λ k. omega (arith, he, value_within (drop (name + 1) s), length-drop (name + 1) s, h))

-- ---- converted or not

module _ (p : List ℕ) (name : ℕ) (hn : name ≡ 0 + run is_token_byte (drop 0 p)) where
  pub converted_none : length p ≤ name → false ≡ is_converted p
  unfolding is_converted value_of
  converted_none h =
      let e : drop (run is_token_byte p + 1) p ≡ [] = drop_of_length-le p {i = run is_token_byte p + 1} (omega (arith, hn)) in
      rw e

  pub converted_by : name < length p → {r : Bool} → r ≡ all is_ascii (take (length p - (name + 1)) (drop (name + 1) p)) → not r ≡ is_converted p
  unfolding is_converted value_of
  converted_by h {r} e =
      let same : name ≡ run is_token_byte p = omega (arith, hn) in
      let whole : take (length p - (name + 1)) (drop (name + 1) p) ≡ drop (name + 1) p = take_all (length p - (name + 1)) (drop (name + 1) p) (rw length-drop (omega arith)) in
      rw (e, whole, same)

pub next_none : (comments : Bool) (s : List ℕ) (at : ℕ) → length s ≤ at → false ≡ converted_next comments (drop at s)
unfolding converted_next parameter_len run
next_none comments s at h = rw (drop_of_length-le s {i = at} h)

module _ (comments : Bool) (s : List ℕ) (at end : ℕ) (e : end ≡ at + parameter_len comments (drop at s)) where
  pub next_absent : end ≤ at → false ≡ converted_next comments (drop at s)
  unfolding converted_next
  next_absent h = let z : parameter_len comments (drop at s) ≡ 0 = omega (arith, e) in rw z

  pub next_by : at < end → {r : Bool} → r ≡ is_converted (take (end - at) (drop at s)) → r ≡ converted_next comments (drop at s)
  unfolding converted_next
  next_by h q =
      let n : parameter_len comments (drop at s) ≡ end - at = omega (arith, e) in
      rw (n, lt-ltb 0 (end - at) (omega arith)) q
