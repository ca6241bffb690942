-- The scan of an envelope line finds the byte that is asked for.
use Rattle.std.specs.Prelude.{◌≡◌, refl, Bool, true, false, not, cond, ◌&&◌, List, [], ◌∷◌, ◌++◌, T, leb, ltb, eqb, length, drop, get_or, Result, Ok, Err}
use Rattle.std.proofs.Common.{ap, ◌∙◌, add-zero, add-one, arith, T_not, eqb→eq, drop_of_length-le, drop-drop, get_or-drop}
use Prim.Native.Nat.{ℕ, suc, ◌+◌, ◌-◌, ◌≤◌, ◌<◌}
use Rattle.std.proofs.Math.Facts.{and_yes, ltb_yes, eqb_no}
use borrow.Author.Tests.{lt-ltb, lt-leb, le-leb, eq-eqb, ne_eqb}
use Rattle.lists.specs.Lists.{all}
use Rattle.lists.specs.ListsLaws.{by_test, cond_has, yes_true, true_yes, no_false}
use Rattle.lists.specs.ByteLaws.{below}
use Rattle.utf8.specs.Utf8.{utf8}
use Rattle.letter_case.specs.LetterCase.{bytes, lower}
use Rattle.parameter.specs.Parameter.{params, spaced, is_param, alts, alts_ok}
use Rattle.envelope_line.specs.EnvelopeLine.{verb, verb_len, has_verb, path_scan, scan_end, is_to, path_len, has_path, tail, well_formed}
use Rattle.line_stop.specs.FirstBad.{WithCrlf}
use Rattle.line_stop.proofs.FirstBadLaws.{first_none}
use Rattle.line_stop.specs.Scanner.{stop_from}
use Rattle.line_stop.proofs.ProductLaws.{Tells, Completes, line_stops, line_inside, line_alone}
use Rattle.line_stop.specs.Word.{is_next}
use Rattle.line_stop.proofs.WordLaws.{begins, begins_is, begins_short, begins_more, begins_other, next_within, next_never, next_high}
use Rattle.path_stop.specs.declared.PathForm.{PathForm}
use Rattle.path_stop.specs.declared.PathForm.TheVariants.{Start, Word, Atoms, Quoted, End, Domain, Literal, Closed, Off}
use Rattle.path_stop.specs.PathStop.{path_step, is_closed, path_live, path_need}
use Rattle.path_stop.specs.PathStopLaws.{ends, path_rest, path_step_lem, path_none, path_closed, path_start_lem}
use Rattle.path_stop.specs.PathNeedLaws.{path_tells}
use Rattle.parameter_stop.specs.declared.Tail.{Tail}
use Rattle.parameter_stop.specs.declared.Tail.TheVariants.{Start as TailStart}
use Rattle.parameter_stop.specs.ParameterStop.{start_step, tail_step}
use Rattle.parameter_stop.proofs.ParameterStopLaws.{tail_rest, tail_is, tail_completes, tail_tells}
use Rattle.envelope_stop.specs.declared.Form.{Form}
use Rattle.envelope_stop.specs.declared.Form.TheVariants.{Verb, Path, Params, Bad}
use Rattle.envelope_stop.specs.EnvelopeStop.{well_formed_at, LineStop, verb_step, after_path, form_step, form_done, form_live, verb_need, form_need, form, scanner, start, line_stop}

-- ---- what completes a form

verb_length : (mail : Bool) → length (verb mail) ≡ verb_len mail
unfolding verb bytes
verb_length true = refl
verb_length false = refl

verb_short : (mail : Bool) → verb_len mail ≤ 11
verb_short true = omega arith
verb_short false = omega arith

closed_is : (p : PathForm) → T (is_closed p) → p ≡ Closed
closed_is (Start mail) t = absurd t
closed_is (Word n) t = absurd t
closed_is (Atoms domain due) t = absurd t
closed_is (Quoted escaped) t = absurd t
closed_is (End domain) t = absurd t
closed_is Domain t = absurd t
closed_is Literal t = absurd t
closed_is Closed t = refl
closed_is Off t = absurd t

-- a path, its `>` and a tail
abbrev path_tail : PathForm → List ℕ → Bool
path_tail p l = path_rest (tail_rest TailStart) p l

unfoldable form_rest : Form → List ℕ → Bool
form_rest (Verb mail n) l = ltb n (verb_len mail) && begins (drop n (verb mail)) (path_tail (Start mail)) l
form_rest (Path p) l = path_tail p l
form_rest (Params q) l = tail_rest q l
form_rest Bad l = false

verb_next : (mail : Bool) (n : ℕ) (l : List ℕ) → n < verb_len mail
    → begins (drop (suc n) (verb mail)) (path_tail (Start mail)) l ≡ form_rest (cond (eqb (suc n) (verb_len mail)) (Path (Start mail)) (Verb mail (suc n))) l
unfolding form_rest begins
verb_next mail n l h =
    by_test (eqb (suc n) (verb_len mail))
    (λ t.
    let e : suc n ≡ verb_len mail = eqb→eq (suc n) (verb_len mail) t in
    let past : length (verb mail) ≤ suc n = omega (arith, verb_length mail) in
    rw (yes_true (eqb (suc n) (verb_len mail)) t, drop_of_length-le (verb mail) {i = suc n} past))
    (λ t. rw (no_false (eqb (suc n) (verb_len mail)) t, lt-ltb (suc n) (verb_len mail) (omega (arith, eqb_no {a = suc n} {b = verb_len mail} t))))

verb_step_lem : (mail : Bool) (n b : ℕ) (l : List ℕ) → form_rest (Verb mail n) (b ∷ l) ≡ form_rest (verb_step mail n b) l
unfolding form_rest verb_step
verb_step_lem mail n b l =
    by_test (is_next (verb mail) n b)
    (λ t.
    let h : n < verb_len mail = rw (verb_length mail) at (next_within (verb mail) n b t) in
    rw (yes_true (is_next (verb mail) n b) t, lt-ltb n (verb_len mail) h, begins_more (verb mail) n b (path_tail (Start mail)) l t) (verb_next mail n l h))
    (λ t.
    by_test (ltb n (verb_len mail))
    (λ u.
    let h : n < length (verb mail) = rw (verb_length mail) (ltb_yes u) in
    rw (no_false (is_next (verb mail) n b) t, yes_true (ltb n (verb_len mail)) u, begins_other (verb mail) n b (path_tail (Start mail)) l h t))
    (λ u. rw (no_false (is_next (verb mail) n b) t, no_false (ltb n (verb_len mail)) u)))

path_then : (p : PathForm) (b : ℕ) (l : List ℕ) → form_rest (Path p) (b ∷ l) ≡ form_rest (after_path p b) l
unfolding form_rest after_path
path_then p b l =
    by_test (is_closed p)
    (λ t. rw (yes_true (is_closed p) t, closed_is p t, path_closed (tail_rest TailStart) (b ∷ l)) (tail_completes.step TailStart b l))
    (λ t. rw (no_false (is_closed p) t) (path_step_lem (tail_rest TailStart) p b l t))

form_step_lem : (f : Form) (b : ℕ) (l : List ℕ) → form_rest f (b ∷ l) ≡ form_rest (form_step f b) l
unfolding form_rest
form_step_lem (Verb mail n) b l = verb_step_lem mail n b l
form_step_lem (Path p) b l = path_then p b l
form_step_lem (Params q) b l = tail_completes.step q b l
form_step_lem Bad b l = refl

form_end : (f : Form) → form_rest f [] ≡ form_done f
unfolding form_rest
form_end (Verb mail n) =
    by_test (ltb n (verb_len mail))
    (λ t.
    let h : n < length (verb mail) = rw (verb_length mail) (ltb_yes t) in
    rw (yes_true (ltb n (verb_len mail)) t, begins_short (verb mail) n (path_tail (Start mail)) h))
    (λ t. rw (no_false (ltb n (verb_len mail)) t))
form_end (Path p) =
    by_test (is_closed p)
    (λ t. rw (closed_is p t, path_closed (tail_rest TailStart) []) (tail_completes.end TailStart))
    (λ t. rw (no_false (is_closed p) t) (path_none (tail_rest TailStart) p t))
form_end (Params q) = tail_completes.end q
form_end Bad = refl

-- ---- bytes that no verb has

verb_ascii : (mail : Bool) (n : ℕ) → n < verb_len mail → get_or (verb mail) n 0 < 128
unfolding verb bytes
verb_ascii true n h = ltb_yes (below (λ i. ltb (get_or (verb true) i 0) 128) 11 tt n h)
verb_ascii false n h = ltb_yes (below (λ i. ltb (get_or (verb false) i 0) 128) 9 tt n h)

no_13 : (mail : Bool) (n : ℕ) → is_next (verb mail) n 13 ≡ false
unfolding verb bytes lower
no_13 true = next_never (verb true) 13 tt
no_13 false = next_never (verb false) 13 tt

no_high : (mail : Bool) (b : ℕ) → 128 ≤ b → (n : ℕ) → is_next (verb mail) n b ≡ false
unfolding verb bytes lower
no_high true = next_high (verb true) tt
no_high false = next_high (verb false) tt

-- ---- the fewest bytes that complete a form are as many as told

at_end_lem : (f : Form) → T (form_done f) → T (form_live f) × (form_need f ≡ 0)
at_end_lem (Verb mail n) t = absurd t
at_end_lem (Path p) t = path_tells.at_end_lem p t
at_end_lem (Params q) t = tail_tells.at_end_lem q t
at_end_lem Bad t = absurd t

may_end : (f : Form) → T (form_live f) → form_need f ≡ 0 → T (form_done f)
unfolding verb_need
may_end (Verb mail n) t e = let h : n < verb_len mail = ltb_yes t in absurd (omega (arith, h))
may_end (Path p) t e = path_tells.may_end p t e
may_end (Params q) t e = tail_tells.may_end q t e
may_end Bad t e = absurd t

-- what a byte of a form that needs n takes away
abbrev Most : Bool → ℕ → Form → Type 0
Most live n g = T (form_live g) → T live × (n ≤ suc (form_need g))

verb_most : (mail : Bool) (n b : ℕ) → Most (ltb n (verb_len mail)) (verb_need mail n) (verb_step mail n b)
unfolding verb_step verb_need
verb_most mail n b =
    let live = ltb n (verb_len mail) in
    let need = verb_len mail - n + cond mail 1 4 in
    cond_has (Most live need) (is_next (verb mail) n b) _ Bad
    (λ t.
    let h : n < verb_len mail = rw (verb_length mail) at (next_within (verb mail) n b t) in
    let yes : T live = rw (lt-ltb n (verb_len mail) h) tt in
    cond_has (Most live need) (eqb (suc n) (verb_len mail)) (Path (Start mail)) (Verb mail (suc n))
    (λ u v. let e : suc n ≡ verb_len mail = eqb→eq (suc n) (verb_len mail) u in (yes, omega (arith, e)))
    (λ u v. (yes, omega (arith, h))))
    (λ t u. absurd u)

path_most : (p : PathForm) (b : ℕ) → Most (path_live p) (path_need p) (after_path p b)
unfolding after_path
path_most p b =
    cond_has (Most (path_live p) (path_need p)) (is_closed p) (Params (start_step b)) (Path (path_step p b))
    (λ t u. let e = path_tells.at_end_lem p t in (e.0, omega (arith, e.1)))
    (λ t u. path_tells.most p b u)

most : (f : Form) (b : ℕ) → Most (form_live f) (form_need f) (form_step f b)
most (Verb mail n) b = verb_most mail n b
most (Path p) b = path_most p b
most (Params q) b = λ t. tail_tells.most q b t
most Bad b = λ t. absurd t

-- a byte that is the next of as few as there are
abbrev Next : Form → ℕ → Type 0
Next f k = (b : ℕ) × (b < 128) × T (form_live (form_step f b)) × (form_need (form_step f b) ≡ k)

verb_same : (mail : Bool) (n : ℕ) → n < verb_len mail → is_next (verb mail) n (get_or (verb mail) n 0) ≡ true
unfolding is_next
verb_same mail n h = rw (verb_length mail, lt-ltb n (verb_len mail) h) (eq-eqb (lower (get_or (verb mail) n 0)) (lower (get_or (verb mail) n 0)) refl)

verb_need_lem : (mail : Bool) (n k : ℕ) → T (ltb n (verb_len mail)) → verb_need mail n ≡ suc k → Next (Verb mail n) k
unfolding verb_step verb_need
verb_need_lem mail n k t e =
    let h : n < verb_len mail = ltb_yes t in
    let Good : Form → Type 0 = λ g. T (form_live g) × (form_need g ≡ k) in
    let g : Good (verb_step mail n (get_or (verb mail) n 0)) =
    rw (verb_same mail n h)
    (cond_has Good (eqb (suc n) (verb_len mail)) (Path (Start mail)) (Verb mail (suc n))
    (λ u. let f : suc n ≡ verb_len mail = eqb→eq (suc n) (verb_len mail) u in (tt, omega (arith, f, e)))
    (λ u.
    let z = eqb_no {a = suc n} {b = verb_len mail} u in
    let less : suc n < verb_len mail = omega (arith, h, z) in
    (rw (lt-ltb (suc n) (verb_len mail) less) tt, omega (arith, less, e)))) in
    (get_or (verb mail) n 0, verb_ascii mail n h, g.0, g.1)

path_need_lem : (p : PathForm) (k : ℕ) → T (path_live p) → path_need p ≡ suc k → Next (Path p) k
unfolding after_path
path_need_lem p k t e =
    by_test (is_closed p)
    (λ u. absurd (omega (arith, e, (path_tells.at_end_lem p u).1)))
    (λ u.
    let n = path_tells.next p k t e in
    (n.0, n.1, rw (no_false (is_closed p) u) n.2, rw (no_false (is_closed p) u) n.3))

next : (f : Form) (k : ℕ) → T (form_live f) → form_need f ≡ suc k → Next f k
next (Verb mail n) k t e = verb_need_lem mail n k t e
next (Path p) k t e = path_need_lem p k t e
next (Params q) k t e = tail_tells.next q k t e
next Bad k t e = absurd t

no_cr_lem : (f : Form) → T (not (form_live (form_step f 13)))
unfolding verb_step after_path
no_cr_lem (Verb mail n) = rw (no_13 mail n) tt
no_cr_lem (Path p) =
    cond_has (λ g. T (not (form_live g))) (is_closed p) (Params (start_step 13)) (Path (path_step p 13))
    (λ t. tail_tells.no_cr_lem TailStart)
    (λ t. path_tells.no_cr_lem p)
no_cr_lem (Params q) = tail_tells.no_cr_lem q
no_cr_lem Bad = tt

-- ---- bytes past ASCII leave a form where the first of them brought it

-- none closes a path
high_open : (p : PathForm) (b : ℕ) → 128 ≤ b → T (path_live (path_step p b)) → is_closed (path_step p b) ≡ false
high_open p b h t =
    by_test (is_closed (path_step p b))
    (λ u.
    let e : path_step p b ≡ Closed = closed_is (path_step p b) u in
    let same : path_step (path_step p b) b ≡ path_step p b = path_tells.steady p b b t h h in
    let off : Off ≡ Closed = rw e at same in
    absurd (true_yes false (ap is_closed off)))
    (λ u. no_false (is_closed (path_step p b)) u)

high_stays : (f : Form) (b c : ℕ) → T (form_live (form_step f b)) → 128 ≤ b → 128 ≤ c → form_step (form_step f b) c ≡ form_step f b
unfolding verb_step after_path
high_stays f b c t h k = go f t
  where
    Stays : Form → Type 0
    Stays g = T (form_live g) → form_step g c ≡ g

    params : (q : Tail) → Stays (Params (tail_step q b))
    params q u = ap Params (tail_tells.steady q b c u h k)

    open_path : (p : PathForm) → Stays (Path (path_step p b))
    open_path p u = rw (high_open p b h u) (ap Path (path_tells.steady p b c u h k))

    go : (f : Form) → Stays (form_step f b)
    go (Verb mail n) = rw (no_high mail b h n) (λ u. absurd u)
    go (Path p) = cond_has Stays (is_closed p) (Params (start_step b)) (Path (path_step p b)) (λ u. params TailStart) (λ u. open_path p)
    go (Params q) = params q
    go Bad = λ u. absurd u

form_tells : Tells form
form_tells = record { at_end_lem = at_end_lem; may_end = may_end; most = most; next = next; no_cr_lem = no_cr_lem; steady = high_stays }

form_completes : Completes form form_rest
form_completes = record { end = form_end; step = form_step_lem }

-- ---- it takes just the well-formed lines

-- a path by its scan, and by its place in the line
path_by : (x : Result ℕ ℕ) (n : ℕ) (line : List ℕ) (k : List ℕ → Bool) → (is_to x && eqb (get_or line (n + scan_end x) 0) 62) && k (drop (n + scan_end x + 1) line)
    ≡ ends x (drop n line) (λ r. eqb (get_or r 0 0) 62 && k (drop 1 r))
unfolding ends
path_by (Ok m) n line k = rw (drop-drop m n line, drop-drop 1 (n + m) line, get_or-drop (n + m) line 0 0, add-zero)
path_by (Err m) n line k = refl

ands : (a b c d e f g : Bool) → a && b && c && d && e && f && g ≡ (a && b) && (c && (d && ((e && f) && g)))
ands true true true true e f g = refl
ands true true true false e f g = refl
ands true true false d e f g = refl
ands true false c d e f g = refl
ands false b c d e f g = refl

verb_some : (mail : Bool) → ltb 0 (length (verb mail)) ≡ true
unfolding verb bytes
verb_some true = refl
verb_some false = refl

verb_path : (mail : Bool) (line : List ℕ) → has_verb mail line && (has_path mail line && tail_rest TailStart (tail mail line)) ≡ form_rest (Verb mail 0) line
unfolding has_verb has_path path_len tail form_rest
verb_path mail line =
    let s = drop (verb_len mail) line in
    rw (path_by (path_scan mail s) (verb_len mail) line (tail_rest TailStart), ← path_start_lem (tail_rest TailStart) mail s, ← verb_length mail, begins_is (verb mail) (path_tail (Start mail)) line)
    (rw (verb_some mail))

formed : (mail : Bool) (line : List ℕ) → well_formed mail line ≡ (leb (length line) 998 && utf8 line) && form_rest (Verb mail 0) line
unfolding well_formed
formed mail line =
    let t = tail mail line in
    ands (leb (length line) 998) (utf8 line) (has_verb mail line) (has_path mail line) (spaced t) (all is_param (params t)) (alts_ok (alts (params t)))
    ∙ rw (← tail_is t, verb_path mail line)

formed_at : (n : ℕ) → T (leb n 100) → (l : List ℕ) → well_formed_at n l ≡ (leb (length l) 998 && utf8 l) && form_rest (Verb (eqb n 0) 0) l
unfolding well_formed_at
formed_at n t l = rw (yes_true (leb n 100) t) (formed (eqb n 0) l)

-- no line stands past the last RCPT
none_after : (n : ℕ) → T (not (leb n 100)) → (l : List ℕ) → WithCrlf (λ line. T (well_formed_at n line)) l → ⊥
unfolding well_formed_at
none_after n t l w = T_not (leb n 100) t (and_yes (leb n 100) (well_formed (eqb n 0) w.text) w.formed).0

-- it finds the byte that is asked for
pub line_stop_lem : (n : ℕ) (s : List ℕ) → LineStop n s (line_stop n s)
unfolding line_stop
line_stop_lem n s =
    cond_has (LineStop n s) (leb n 100) (stop_from scanner 998 0 (start (eqb n 0)) s) 0
    (λ t. line_stops form_tells form_completes 998 (Verb (eqb n 0) 0) (well_formed_at n) (formed_at n t) s)
    (λ t. first_none (none_after n t) s)

-- a malformed line has that byte in itself, its CRLF with it, whatever follows
module _ (n : ℕ) (text more : List ℕ) (u : T (not (well_formed_at n text))) where
  pub line_stop_inside : line_stop n (text ++ (13 ∷ 10 ∷ more)) < suc (suc (length text))
  unfolding line_stop
  line_stop_inside =
      cond_has (λ m. m < suc (suc (length text))) (leb n 100) (stop_from scanner 998 0 (start (eqb n 0)) (text ++ (13 ∷ 10 ∷ more))) 0
      (λ t. line_inside form_tells form_completes 998 (Verb (eqb n 0) 0) (well_formed_at n) (formed_at n t) text more u)
      (λ t. omega arith)

  pub line_stop_alone : line_stop n (text ++ (13 ∷ 10 ∷ more)) ≡ line_stop n (text ++ (13 ∷ 10 ∷ []))
  unfolding line_stop
  line_stop_alone =
      by_test (leb n 100)
      (λ t. rw (yes_true (leb n 100) t) (line_alone form_tells form_completes 998 (Verb (eqb n 0) 0) (well_formed_at n) (formed_at n t) text more u))
      (λ t. rw (no_false (leb n 100) t))

-- ---- the tests one after another, as code makes them

module _ (mail : Bool) (n b : ℕ) where
  pub verb_bad : is_next (verb mail) n b ≡ false → Bad ≡ verb_step mail n b
  unfolding verb_step
  verb_bad e = rw e

  module _ (e : is_next (verb mail) n b ≡ true) where
    pub verb_within : n < 11
    verb_within = omega (arith, next_within (verb mail) n b (true_yes (is_next (verb mail) n b) e), verb_length mail, verb_short mail)

    pub verb_last : {whole : ℕ} → whole ≡ verb_len mail → n + 1 ≡ whole → Path (Start mail) ≡ verb_step mail n b
    unfolding verb_step
    verb_last w z = rw (e, eq-eqb (suc n) (verb_len mail) (omega (arith, w, z)))

    pub verb_more : {whole : ℕ} → whole ≡ verb_len mail → (n + 1 ≡ whole → ⊥) → Verb mail (n + 1) ≡ verb_step mail n b
    unfolding verb_step
    verb_more w z = rw (e, ne_eqb (suc n) (verb_len mail) (λ f. z (omega (arith, w, f))), add-one)

module _ (n at : ℕ) (s : List ℕ) where
  pub stop_past : 100 < n → at ≡ at + line_stop n s
  unfolding line_stop
  stop_past h = rw (lt-leb n 100 h) (omega arith)

  pub stop_at : {r : ℕ} → n ≤ 100 → r ≡ at + stop_from scanner 998 0 (start (eqb n 0)) s → r ≡ at + line_stop n s
  unfolding line_stop
  stop_at h e = rw (le-leb n 100 h) e
