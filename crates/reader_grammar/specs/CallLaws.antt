-- Calls of the reader that go on from the place after a field find each field by its number: how many Downgraded fields stand before it.
use Rattle.std.specs.Prelude.{◌≡◌, Bool, false, not, cond, List, [], ◌∷◌, ◌++◌, ℕ, zero, suc, ◌+◌, ◌-◌, ◌≤◌, ◌<◌, T, eqb, ltb, length, take, get_or}
use Rattle.std.proofs.Math.Path.{refl}
use Rattle.std.proofs.Common.{ap, sym, ◌∙◌, not-suc-le-zero, zero-add, arith, T_not, eqb→eq, length-take, length-append, take-append-drop, drop-drop, drop_at, take-take, get_or-drop}
use Rattle.std.proofs.Math.ListN.{drop, length-drop}
use Rattle.std.proofs.Math.Seq.{drop-length}
use Rattle.std.proofs.lemmas.List.{drop-append-le, take-append-le}
use Rattle.std.proofs.Math.Facts.{and_yes, yes_and, ltb_yes, ltb_no, eqb_no}
use Rattle.lists.specs.Lists.{all}
use Rattle.lists.specs.ListsLaws.{by_test, cond_has, yes_true, no_false}
use Rattle.letter_case.specs.LetterCase.{bytes, lower, same_any_case}
use Rattle.letter_case.specs.LetterCaseLaws.{other_length}
use Rattle.line.specs.Line.{blank, crlf, not_cr}
use Rattle.header.specs.Fields.{fold, field_len, fields_of}
use Rattle.header.specs.FieldLaws.{ends, len_cons, len_past, field_after, fields_nil, fields_front}
use Rattle.downgraded_reader.specs.Reader.{is_downgraded, field_start}
use Rattle.reader_grammar.specs.ReaderGrammar.{LineBegins, FieldBegins, downgraded_count}
use Rattle.reader_grammar.specs.StartLaws.{after_line, front_letter, field_inside, start_least, start_up, start_begins, start_first, first_once}

-- ---- where a field ends

-- before a line that is no continuation
nil_len : field_len [] ≡ 0
unfolding field_len
nil_len = refl

field_short : (s : List ℕ) (j : ℕ) → T (crlf (drop j s)) → blank (get_or s (j + 2) 0) ≡ false → field_len s ≤ j + 2
unfolding ends fold
field_short [] j t e = omega (arith, nil_len)
field_short (b ∷ s) zero t e = rw (len_cons b s, yes_true (crlf (b ∷ s)) t, e) (omega arith)
field_short (b ∷ s) (suc j) t e =
    let i : suc j + 2 ≡ suc (j + 2) = omega arith in
    let k = field_short s j t (rw i at e) in
    rw len_cons (cond_has (λ n. n ≤ suc j + 2) (ends (b ∷ s)) 2 (suc (field_len s)) (λ u. omega arith) (λ u. omega arith))

-- after a CRLF, short of the header's end
len_cut : (s : List ℕ) → field_len s < length s → (n : ℕ) × (field_len s ≡ n + 2) × T (crlf (drop n s))
unfolding ends
len_cut [] k = absurd (not-suc-le-zero k)
len_cut (b ∷ s) k =
    by_test (ends (b ∷ s))
    (λ t. (0, rw (len_cons b s, yes_true (ends (b ∷ s)) t) refl, (and_yes (crlf (b ∷ s)) (not (fold (b ∷ s))) t).0))
    (λ t.
    let e : field_len (b ∷ s) ≡ suc (field_len s) = rw (len_cons b s, no_false (ends (b ∷ s)) t) refl in
    let r = len_cut s (omega (arith, k, e)) in
    (suc r.0, omega (arith, e, r.1), r.2))

field_next : (h : List ℕ) (q : ℕ) → q + field_len (drop q h) < length h → LineBegins h (q + field_len (drop q h))
field_next h q k =
    let x = drop q h in
    let r = len_cut x (rw length-drop (omega arith)) in
    let to : q + r.0 + 2 ≡ q + field_len x = omega (arith, r.1) in
    rw to at (LineBegins.after_crlf (q + r.0) (rw drop-drop at r.2))

-- no field begins inside another
pub field_before : (h : List ℕ) {p q : ℕ} → FieldBegins h p → LineBegins h q → q < p → q + field_len (drop q h) ≤ p
field_before h {p} {q} f l k = by f.line k (front_letter (drop p h) f.prefix).1
  where
    by : {p : ℕ} → LineBegins h p → q < p → blank (get_or (drop p h) 0 0) ≡ false → q + field_len (drop q h) ≤ p
    by LineBegins.at_start k b = absurd (not-suc-le-zero k)
    by (LineBegins.after_crlf p t) k b =
        let up : q ≤ p = after_line p l t k in
        let there : q + (p - q) ≡ p = omega arith in
        let c : T (crlf (drop (p - q) (drop q h))) = rw (drop-drop, there) t in
        let two : q + (p - q + 2) ≡ p + 2 + 0 = omega arith in
        let e : blank (get_or (drop q h) (p - q + 2) 0) ≡ false = rw (get_or-drop q h (p - q + 2) 0, two, ← get_or-drop (p + 2) h 0 0) b in
        omega (arith, field_short (drop q h) (p - q) c e)

-- ---- a field tells by itself whether it is a Downgraded field

abbrev no_cr : ℕ → Bool
no_cr b = not (eqb (lower b) 13)

same_no_cr : (a w : List ℕ) → T (same_any_case a w) → T (all no_cr w) → T (all not_cr a)
unfolding same_any_case lower
same_no_cr [] w s n = tt
same_no_cr (x ∷ a) [] s n = absurd s
same_no_cr (x ∷ a) (y ∷ w) s n =
    let both = and_yes (eqb (lower x) (lower y)) (same_any_case a w) s in
    let rest = and_yes (no_cr y) (all no_cr w) n in
    yes_and (not_cr x) (all not_cr a)
    (by_test (eqb x 13) (λ t. absurd (T_not (eqb (lower y) 13) rest.0 (rw (← eqb→eq (lower x) (lower y) both.0, eqb→eq x 13 t) tt))) (λ t. t))
    (same_no_cr a w both.1 rest.1)

-- its first bytes stand in its first line
pub prefix_size : (s : List ℕ) → T (is_downgraded s) → length (take 11 s) ≡ 11
unfolding is_downgraded bytes
prefix_size s t =
    by_test (eqb (length (take 11 s)) 11)
    (λ u. eqb→eq (length (take 11 s)) 11 u)
    (λ u. absurd (rw (other_length (take 11 s) (bytes "Downgraded-") (eqb_no {a = length (take 11 s)} {b = 11} u)) at t))

prefix_no_cr : (s : List ℕ) → T (is_downgraded s) → T (all not_cr (take 11 s))
unfolding is_downgraded bytes lower
prefix_no_cr s t = same_no_cr (take 11 s) (bytes "Downgraded-") t tt

prefix_inside : (s : List ℕ) → T (is_downgraded s) → 11 ≤ field_len s
prefix_inside s t =
    let past = len_past (take 11 s) (drop 11 s) (prefix_no_cr s t) in
    omega (arith, rw (take-append-drop 11 s) at past, prefix_size s t)

prefix_kept : (s : List ℕ) (n : ℕ) → 11 ≤ n → is_downgraded (take n s) ≡ is_downgraded s
unfolding is_downgraded
prefix_kept s n k = rw (take-take 11 n s k) refl

pub field_tells : (s : List ℕ) → is_downgraded (take (field_len s) s) ≡ is_downgraded s
field_tells s =
    let n = field_len s in
    by_test (is_downgraded s)
    (λ t. prefix_kept s n (prefix_inside s t))
    (λ t. by_test (is_downgraded (take n s))
    (λ u. prefix_kept s n (omega (arith, prefix_size (take n s) u, length-take 11 (take n s), length-take n s)))
    (λ u. no_false (is_downgraded (take n s)) u ∙ sym (no_false (is_downgraded s) t)))

-- ---- how many there are from a place on

abbrev pub count_from : List ℕ → ℕ → ℕ
count_from h q = downgraded_count (fields_of (drop q h))

module _ (h : List ℕ) where
  count_step : (q : ℕ) → q < length h → count_from h q ≡ cond (is_downgraded (drop q h)) 1 0 + count_from h (q + field_len (drop q h))
  unfolding downgraded_count
  count_step q k = let x = drop q h in rw (fields_front x (rw length-drop (omega arith)), field_tells x, drop-drop) refl

  -- none from a line on up to the field that is found
  abbrev NoneTo : ℕ → Type 0
  NoneTo q = LineBegins h q → field_start h q < length h → count_from h q ≡ count_from h (field_start h q)

  none_here : (q : ℕ) → field_start h q ≤ q → count_from h q ≡ count_from h (field_start h q)
  none_here q k = let e : q ≡ field_start h q = omega (arith, start_up h q) in ap (count_from h) e

  -- past a field of another name
  none_past : (q : ℕ) → LineBegins h q → field_start h q < length h → q < field_start h q
      → (q < q + field_len (drop q h) → field_start h (q + field_len (drop q h)) ≡ field_start h q → NoneTo (q + field_len (drop q h))) → count_from h q ≡ count_from h (field_start h q)
  none_past q l i less more =
      let next = q + field_len (drop q h) in
      let f = start_begins h q i in
      let after = field_after h q next (omega arith) refl in
      let up = field_before h f l less in
      let none : T (not (is_downgraded (drop q h))) =
      by_test (is_downgraded (drop q h)) (λ t. absurd (omega (arith, less, start_least h q q (omega arith) (record { line = l; prefix = t })))) (λ t. t) in
      let same : field_start h next ≡ field_start h q =
      first_once h next (record { up = up; begins = f; none_before = λ p u v g. (start_first h q i).none_before p (omega (arith, after.0)) v g }) in
      let step : count_from h q ≡ 0 + count_from h next = rw (no_false (is_downgraded (drop q h)) none) at (count_step q (omega arith)) in
      let rest = more after.0 same (field_next h q (omega (arith, up))) (rw same i) in
      step ∙ zero-add (count_from h next) ∙ rw same at rest

  none_to : (m q : ℕ) → field_start h q - q ≤ m → NoneTo q
  none_to zero q k l i = none_here q (omega arith)
  none_to (suc m) q k l i =
      by_test (ltb q (field_start h q))
      (λ t. none_past q l i (ltb_yes t) (λ some same. none_to m (q + field_len (drop q h)) (rw same (omega (arith, some)))))
      (λ t. none_here q (ltb_no {a = q} {b = field_start h q} t))

  -- and one there
  count_found : (q : ℕ) → LineBegins h q → field_start h q < length h → count_from h q ≡ 1 + count_from h (field_start h q + field_len (drop (field_start h q) h))
  count_found q l i =
      let s = field_start h q in
      none_to (s - q) q (omega arith) l i ∙ rw (yes_true (is_downgraded (drop s h)) (start_begins h q i).prefix) at (count_step s i)

-- ---- call after call

-- the places of calls by their numbers: the first is 0, each other the place after the field that the one before found
pub data Reached (h : List ℕ) : ℕ → ℕ → Type 0 where
  first : Reached h 0 0
  next : {k q : ℕ} → Reached h k q → field_start h q < length h → Reached h (suc k) (field_start h q + field_len (drop (field_start h q) h))

-- the call that finds a field, and its number
pub record FoundBy (h : List ℕ) (p : ℕ) : Type 0 where
  pub number : ℕ
  pub place : ℕ
  pub reached : Reached h number place
  pub finds : field_start h place ≡ p
  pub count : number + count_from h p ≡ count_from h 0

module _ (h : List ℕ) {p : ℕ} (f : FieldBegins h p) where
  here : (k q : ℕ) → field_start h q ≡ p → LineBegins h q → k + count_from h q ≡ count_from h 0 → Reached h k q → FoundBy h p
  here k q e l c r =
      let same = none_to h (field_start h q - q) q (omega arith) l (omega (arith, e, field_inside f)) in
      record { number = k; place = q; reached = r; finds = e; count = rw (same, e) at c }

  reach : (m k q : ℕ) → p - q ≤ m → q ≤ p → LineBegins h q → k + count_from h q ≡ count_from h 0 → Reached h k q → FoundBy h p
  reach zero k q d u l c r = here k q (omega (arith, start_least h q p u f, start_up h q)) l c r
  reach (suc m) k q d u l c r =
      by_test (ltb (field_start h q) p)
      (λ t.
      let s = field_start h q in
      let less : s < p = ltb_yes t in
      let inside : s < length h = omega (arith, field_inside f) in
      let next = s + field_len (drop s h) in
      let after = field_after h s next inside refl in
      let before = field_before h f (start_begins h q inside).line less in
      let left : suc k + count_from h next ≡ count_from h 0 = omega (arith, c, count_found h q l inside) in
      reach m (suc k) next (omega (arith, after.0, start_up h q)) before (field_next h s (omega (arith, before, field_inside f))) left (Reached.next r inside))
      (λ t. here k q (omega (arith, start_least h q p u f, ltb_no {a = field_start h q} {b = p} t)) l c r)

  pub found_by : FoundBy h p
  found_by = reach p 0 0 (omega arith) (omega arith) LineBegins.at_start (zero-add (count_from h 0)) Reached.first

-- ---- what stands before a field

ends_same : (u v : ℕ) (x b : List ℕ) → blank (get_or b 0 0) ≡ false → ends (u ∷ v ∷ (x ++ b)) ≡ ends (u ∷ v ∷ x)
unfolding ends crlf fold blank
ends_same u v [] b e = rw e refl
ends_same u v (y ∷ x) b e = refl

ends_one : (u : ℕ) → ends (u ∷ []) ≡ false
unfolding ends crlf
ends_one u = by_test (eqb u 13) (λ t. rw (yes_true (eqb u 13) t) refl) (λ t. rw (no_false (eqb u 13) t) refl)

-- a field that ends before b, without b
len_whole : (x b : List ℕ) → blank (get_or b 0 0) ≡ false → field_len (x ++ b) ≤ length x → field_len x ≡ field_len (x ++ b)
len_whole [] b e k = omega (arith, nil_len)
len_whole (u ∷ []) b e k =
    by_test (ends (u ∷ b))
    (λ t. absurd (omega (arith, rw (len_cons u b, yes_true (ends (u ∷ b)) t) at k)))
    (λ t. rw (len_cons u [], len_cons u b, ends_one u, no_false (ends (u ∷ b)) t) (omega (arith, nil_len, rw (len_cons u b, no_false (ends (u ∷ b)) t) at k)))
len_whole (u ∷ v ∷ x) b e k =
    let same = ends_same u v x b e in
    let y : List ℕ = v ∷ x in
    by_test (ends (u ∷ y))
    (λ t. rw (len_cons u y, len_cons u (y ++ b), same, yes_true (ends (u ∷ y)) t) refl)
    (λ t.
    let n = no_false (ends (u ∷ y)) t in
    let size : field_len (u ∷ (y ++ b)) ≡ suc (field_len (y ++ b)) = rw (len_cons u (y ++ b), same, n) refl in
    rw (len_cons u y, n, size) (ap suc (len_whole (v ∷ x) b e (omega (arith, k, size)))))

module _ (a b : List ℕ) (f : FieldBegins (a ++ b) (length a)) where
  fresh : blank (get_or b 0 0) ≡ false
  fresh = rw (drop_at a b (length a) refl) at (front_letter (drop (length a) (a ++ b)) f.prefix).1

  count_nil : downgraded_count (fields_of []) ≡ 0
  unfolding downgraded_count
  count_nil = rw fields_nil refl

  at_end_lem : (q : ℕ) → q ≡ length a → count_from (a ++ b) q ≡ count_from a q + downgraded_count (fields_of b)
  at_end_lem q e = rw (e, drop_at a b (length a) refl, drop-length a, count_nil) (omega arith)

  count_apart : (m q : ℕ) → length a - q ≤ m → q ≤ length a → LineBegins (a ++ b) q → count_from (a ++ b) q ≡ count_from a q + downgraded_count (fields_of b)
  count_apart zero q k u l = at_end_lem q (omega arith)
  count_apart (suc m) q k u l =
      by_test (ltb q (length a))
      (λ t.
      let h = a ++ b in
      let less : q < length a = ltb_yes t in
      let n = field_len (drop q h) in
      let cut : drop q h ≡ drop q a ++ b = drop-append-le q a b u in
      let up : q + n ≤ length a = field_before h f l less in
      let after = field_after h q (q + n) (omega (arith, length-append a b)) refl in
      let len : field_len (drop q a) ≡ n = rw cut (len_whole (drop q a) b fresh (rw (← cut, length-drop) (omega (arith, up)))) in
      let front : take n (drop q h) ≡ take n (drop q a) = rw cut (take-append-le (field_len (drop q a ++ b)) (drop q a) b (rw (← cut, length-drop) (omega (arith, up)))) in
      let tells : is_downgraded (drop q h) ≡ is_downgraded (drop q a) = sym (field_tells (drop q h)) ∙ ap is_downgraded front ∙ rw len at (field_tells (drop q a)) in
      let ours : count_from a q ≡ cond (is_downgraded (drop q a)) 1 0 + count_from a (q + n) = rw len at (count_step a q less) in
      let whole = count_step h q (omega (arith, length-append a b)) in
      let rest = count_apart m (q + n) (omega (arith, after.0)) up (field_next h q (omega (arith, up, field_inside f))) in
      omega (arith, ours, rest, rw tells at whole))
      (λ t. at_end_lem q (omega (arith, ltb_no {a = q} {b = length a} t)))

  -- the number of a field
  pub number_is : (x : FoundBy (a ++ b) (length a)) → x.number ≡ downgraded_count (fields_of a)
  number_is x =
      let whole = count_apart (length a) 0 (omega arith) (omega arith) LineBegins.at_start in
      let here = at_end_lem (length a) refl in
      let none : count_from a (length a) ≡ 0 = rw (drop-length a) count_nil in
      omega (arith, x.count, whole, here, none)
