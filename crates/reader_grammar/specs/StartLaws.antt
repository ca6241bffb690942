-- The field that the reader finds is the first one begun at the place or later.
use Rattle.std.specs.Prelude.{◌≡◌, Bool, not, List, [], ◌∷◌, ℕ, zero, suc, ◌+◌, ◌-◌, ◌≤◌, ◌<◌, leb, ltb, take, get_or}
use Rattle.std.proofs.Math.Path.{refl}
use Rattle.std.proofs.Math.Bool.{true, false, cond}
use Rattle.std.proofs.Common.{not-suc-le-zero, eqb→eq}
use native.Mathlib.Omega.{arith}
use Rattle.std.proofs.Math.Dec.{T, eqb}
use Rattle.std.proofs.Math.ListN.{length, drop, length-drop}
use Rattle.std.proofs.Math.Seq.{drop-drop}
use Rattle.std.proofs.Math.Facts.{and_yes, leb_yes, leb_no, ltb_yes, ltb_no, eqb_no}
use Rattle.lists.specs.ListsLaws.{by_test, cond_has, yes_true, no_false}
use Rattle.letter_case.specs.LetterCase.{bytes, lower, same_any_case}
use Rattle.line.specs.Line.{blank, crlf, line_len}
use Rattle.line.specs.LineLaws.{crlf_inside, crlf_at_lem}
use Rattle.downgraded_reader.specs.Reader.{is_downgraded, first_line, to_field_after, field_start}
use Rattle.downgraded_reader.specs.ReaderLaws.{to_next, to_here, line_up}
use Rattle.reader_grammar.specs.ReaderGrammar.{LineBegins, FieldBegins, FirstField}

-- ---- CRLF

-- no line reaches past a CRLF, and a line that is cut short of the end is cut at one
line_short : (s : List ℕ) (j : ℕ) → T (crlf (drop j s)) → line_len s ≤ j
unfolding line_len
line_short [] j t = omega arith
line_short (b ∷ s) zero t = rw (yes_true (crlf (b ∷ s)) t) (omega arith)
line_short (b ∷ s) (suc j) t = let k = line_short s j t in cond_has (λ n. n ≤ suc j) (crlf (b ∷ s)) 0 (suc (line_len s)) (λ u. omega arith) (λ u. omega arith)

line_cut : (s : List ℕ) → line_len s < length s → T (crlf (drop (line_len s) s))
unfolding line_len
line_cut [] h = absurd (not-suc-le-zero h)
line_cut (b ∷ s) h =
    by_test (crlf (b ∷ s))
    (λ t. rw (yes_true (crlf (b ∷ s)) t) t)
    (λ t. rw (no_false (crlf (b ∷ s)) t) (line_cut s (omega (arith, rw (no_false (crlf (b ∷ s)) t) at h))))

crlf_bytes : (h : List ℕ) (p : ℕ) → T (crlf (drop p h)) → (get_or h p 0 ≡ 13) × (get_or h (p + 1) 0 ≡ 10)
crlf_bytes h p t =
    let both = and_yes (eqb (get_or h p 0) 13) (eqb (get_or h (p + 1) 0) 10) (rw (crlf_at_lem h p) at t) in
    (eqb→eq (get_or h p 0) 13 both.0, eqb→eq (get_or h (p + 1) 0) 10 both.1)

-- two places of CRLF that would share a byte
no_overlap : (h : List ℕ) (j k : ℕ) → T (crlf (drop j h)) → T (crlf (drop k h)) → k ≡ j + 1 → ⊥
no_overlap h j k s t e =
    let a : get_or h (j + 1) 0 ≡ 13 = rw e at (crlf_bytes h k t).0 in
    omega (arith, a, (crlf_bytes h j s).1)

-- a line begins at `at`, and a CRLF at k ends a line before a later place: it stands in the line at `at` or after it
pub after_line : {h : List ℕ} {at : ℕ} (k : ℕ) → LineBegins h at → T (crlf (drop k h)) → at < k + 2 → at ≤ k
after_line k LineBegins.at_start t l = omega arith
after_line {h} k (LineBegins.after_crlf p s) t l =
    by_test (leb (p + 2) k) (λ u. leb_yes u)
    (λ u. absurd (no_overlap h p k s t (omega (arith, leb_no {a = p + 2} {b = k} u))))

-- ---- a field's first bytes

pub front_letter : (s : List ℕ) → T (is_downgraded s) → (0 < length s) × (blank (get_or s 0 0) ≡ false)
unfolding is_downgraded bytes same_any_case blank lower
front_letter [] t = absurd t
front_letter (b ∷ s) t =
    let e = (and_yes (eqb (lower b) 100) (same_any_case (take 10 s) (bytes "owngraded-")) t).0 in
    (omega arith, by_test (eqb b 32) (λ u. absurd (rw (eqb→eq b 32 u) at e)) (λ u. by_test (eqb b 9) (λ v. absurd (rw (eqb→eq b 9 v) at e)) (λ v. rw (no_false (eqb b 32) u, no_false (eqb b 9) v) refl)))

pub field_inside : {h : List ℕ} {p : ℕ} → FieldBegins h p → p < length h
field_inside {h} {p} f = omega (arith, (front_letter (drop p h) f.prefix).0, length-drop p h)

-- ---- from a line on

module _ (h : List ℕ) where
  -- the next line
  next_line : (at : ℕ) → T (crlf (drop (at + line_len (drop at h)) h)) → LineBegins h (at + (line_len (drop at h) + 2))
  next_line at t = let e : at + line_len (drop at h) + 2 ≡ at + (line_len (drop at h) + 2) = omega arith in rw e at (LineBegins.after_crlf (at + line_len (drop at h)) t)

  -- the search from a line that begins at `at` ends at a field, unless it ends past the header
  search_begins : (m at : ℕ) → length h - at ≤ m → LineBegins h at → at + to_field_after 0 (drop at h) < length h → FieldBegins h (at + to_field_after 0 (drop at h))
  search_begins zero at k l r = absurd (omega arith)
  search_begins (suc m) at k l r =
      let x = drop at h in
      let inside : 0 < length x = rw length-drop (omega arith) in
      by_test (is_downgraded x)
      (λ t. let z : at + to_field_after 0 x ≡ at = omega (arith, to_here x inside (yes_true (is_downgraded x) t)) in rw z (record { line = l; prefix = t }))
      (λ t.
      let n = line_len x in
      let to = at + (n + 2) in
      let z : at + to_field_after 0 x ≡ to + to_field_after 0 (drop to h) = rw (to_next x inside (no_false (is_downgraded x) t), drop-drop) (omega arith) in
      let small : n < length x = rw length-drop (omega (arith, z)) in
      let c : T (crlf (drop (at + n) h)) = rw drop-drop at (line_cut x small) in
      rw z (search_begins m to (omega arith) (next_line at c) (rw z at r)))

  -- a later line begins after the line at `at`
  past_line : {at p : ℕ} → LineBegins h at → LineBegins h p → at < p → T (crlf (drop (at + line_len (drop at h)) h)) × (at + (line_len (drop at h) + 2) ≤ p)
  past_line l LineBegins.at_start k = absurd (not-suc-le-zero k)
  past_line {at} l (LineBegins.after_crlf p t) k =
      let x = drop at h in
      let up : at ≤ p = after_line p l t k in
      let there : at + (p - at) ≡ p = omega arith in
      let in_x : T (crlf (drop (p - at) x)) = rw (drop-drop, there) t in
      let short = line_short x (p - at) in_x in
      let fits = crlf_inside h p (yes_true (crlf (drop p h)) t) in
      let c : T (crlf (drop (at + line_len x) h)) = rw drop-drop at (line_cut x (rw length-drop (omega (arith, short)))) in
      (c, omega (arith, short))

  -- and passes over none: where the line at `at` begins no field, the next line lies no further than a field begun after `at`
  least_step : {at p : ℕ} → LineBegins h at → at < p → FieldBegins h p → T (not (is_downgraded (drop at h))) → (LineBegins h (at + (line_len (drop at h) + 2)) → at + (line_len (drop at h) + 2) ≤ p
      → at + (line_len (drop at h) + 2) + to_field_after 0 (drop (at + (line_len (drop at h) + 2)) h) ≤ p) → at + to_field_after 0 (drop at h) ≤ p
  least_step {at} {p} l k f t more =
      let x = drop at h in
      let c = past_line l f.line k in
      let inside : 0 < length x = rw length-drop (omega (arith, field_inside f)) in
      let r = more (next_line at c.0) c.1 in
      rw (to_next x inside (no_false (is_downgraded x) t), drop-drop) (omega (arith, r))

  same_place : {at p : ℕ} → FieldBegins h p → p ≡ at → at + to_field_after 0 (drop at h) ≤ p
  same_place {at} {p} f e =
      let t : T (is_downgraded (drop at h)) = rw e at f.prefix in
      omega (arith, e, to_here (drop at h) (front_letter (drop at h) t).0 (yes_true (is_downgraded (drop at h)) t))

  search_least : (m at p : ℕ) → p - at ≤ m → LineBegins h at → at ≤ p → FieldBegins h p → at + to_field_after 0 (drop at h) ≤ p
  search_least zero at p k l u f = same_place f (omega arith)
  search_least (suc m) at p k l u f =
      by_test (is_downgraded (drop at h))
      (λ t. omega (arith, to_here (drop at h) (front_letter (drop at h) t).0 (yes_true (is_downgraded (drop at h)) t)))
      (λ t. by_test (leb p at)
      (λ v. same_place f (omega (arith, leb_yes {a = p} {b = at} v)))
      (λ v. least_step l (leb_no {a = p} {b = at} v) f t (λ b w. search_least m (at + (line_len (drop at h) + 2)) p (omega (arith, leb_no {a = p} {b = at} v)) b w f)))

-- ---- from a place on

module _ (h : List ℕ) (place : ℕ) where
  -- where the first line from the place on begins, if the header goes on so far
  first_begins : first_line h place < length h → LineBegins h (first_line h place)
  unfolding first_line
  first_begins = by (eqb place 0) refl
    where
      by : (t : Bool) → eqb place 0 ≡ t → cond t 0 (place - 2 + line_len (drop (place - 2) h) + 2) < length h → LineBegins h (cond t 0 (place - 2 + line_len (drop (place - 2) h) + 2))
      by true e k = LineBegins.at_start
      by false e k =
          let x = drop (place - 2) h in
          LineBegins.after_crlf (place - 2 + line_len x) (rw drop-drop at (line_cut x (rw length-drop (omega arith))))

  -- no line begins between
  first_least : {p : ℕ} → place ≤ p → LineBegins h p → p < length h → first_line h place ≤ p
  unfolding first_line
  first_least {p} u l k = by (eqb place 0) refl l
    where
      by : (t : Bool) → eqb place 0 ≡ t → LineBegins h p → cond t 0 (place - 2 + line_len (drop (place - 2) h) + 2) ≤ p
      by true e l = omega arith
      by false e l = line (eqb_no {a = place} {b = 0} (rw e tt)) l u
        where
          line : {q : ℕ} → (place ≡ 0 → ⊥) → LineBegins h q → place ≤ q → place - 2 + line_len (drop (place - 2) h) + 2 ≤ q
          line n LineBegins.at_start v = absurd (n (omega arith))
          line n (LineBegins.after_crlf q t) v =
              let there : place - 2 + (q - (place - 2)) ≡ q = omega arith in
              let c : T (crlf (drop (q - (place - 2)) (drop (place - 2) h))) = rw (drop-drop, there) t in
              omega (arith, line_short (drop (place - 2) h) (q - (place - 2)) c)

  pub start_least : (p : ℕ) → place ≤ p → FieldBegins h p → field_start h place ≤ p
  unfolding field_start
  start_least p u f =
      let k = first_least u f.line (field_inside f) in
      search_least h p (first_line h place) p (omega arith) (first_begins (omega (arith, k, field_inside f))) k f

  pub start_up : place ≤ field_start h place
  unfolding field_start
  start_up = omega (arith, line_up h place)

  pub start_begins : field_start h place < length h → FieldBegins h (field_start h place)
  unfolding field_start
  start_begins k = search_begins h (length h) (first_line h place) (omega arith) (first_begins (omega (arith, k))) k

  -- the first field begun at the place or later
  pub start_first : field_start h place < length h → FirstField h place (field_start h place)
  start_first k = record { up = start_up; begins = start_begins k; none_before = λ p u l f. omega (arith, l, start_least p u f) }

  -- or none
  pub start_none : length h ≤ field_start h place → (p : ℕ) → place ≤ p → FieldBegins h p → ⊥
  start_none k p u f = omega (arith, k, start_least p u f, field_inside f)

  pub first_once : {start : ℕ} → FirstField h place start → field_start h place ≡ start
  first_once {start} f =
      let k = start_least start f.up f.begins in
      let inside = field_inside f.begins in
      by_test (ltb (field_start h place) start)
      (λ t. absurd (f.none_before (field_start h place) start_up (ltb_yes t) (start_begins (omega (arith, k, inside)))))
      (λ t. omega (arith, k, ltb_no {a = field_start h place} {b = start} t))
