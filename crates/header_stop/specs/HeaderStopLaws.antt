-- The scan of a header line finds the byte that is asked for.
use Rattle.std.specs.Prelude.{◌≡◌, refl, Bool, true, false, not, ◌&&◌, ◌||◌, List, [], ◌∷◌, ◌++◌, ℕ, zero, suc, ◌-◌, ◌≤◌, ◌<◌, T, leb, eqb, length, get_or}
use Rattle.std.proofs.Common.{sym, arith, eqb→eq, le-leb, ne_eqb}
use Rattle.std.proofs.Math.Bool.{and-true, and-false}
use Rattle.std.proofs.Math.Dec.{leb-zero, leb-suc-zero, leb-suc-suc}
use Rattle.std.proofs.Math.Facts.{and_yes}
use Rattle.lists.specs.Lists.{all}
use Rattle.lists.specs.ListsLaws.{by_test, cond_has, yes_true, no_false}
use Rattle.lists.specs.Byte.{within}
use Rattle.lists.specs.ByteLaws.{within_low, within_high}
use Rattle.lists.specs.Run.{run}
use Rattle.utf8.specs.Utf8.{utf8}
use Rattle.line.specs.Line.{blank}
use Rattle.header_line.specs.Lines.{line_byte, name_byte, name_len, named, continuation, well_formed}
use Rattle.line_stop.proofs.ProductLaws.{Tells, Completes, line_stops, line_inside, line_alone}
use Rattle.header_stop.specs.declared.Form.{Form}
use Rattle.header_stop.specs.declared.Form.TheVariants.{Start, Name, Body, Bad}
use Rattle.header_stop.specs.HeaderStop.{LineStop, name_more, start_step, name_step, body_step, form_step, is_body, not_bad, form_need, form, line_stop}

-- the texts that complete a form
unfoldable form_rest : Form → List ℕ → Bool
form_rest (Start first) l = all line_byte l && (continuation first l || named l)
form_rest (Name k) l = all line_byte l && (leb (name_len l) k && eqb (get_or l (name_len l) 0) 58)
form_rest Body l = all line_byte l
form_rest Bad l = false

form_end : (f : Form) → form_rest f [] ≡ is_body f
unfolding form_rest continuation named name_len run blank
form_end (Start first) = refl
form_end (Name k) = and-false (leb 0 k)
form_end Body = refl
form_end Bad = refl

-- ---- which bytes a line may hold

pub line_high : (b : ℕ) → 14 ≤ b → line_byte b ≡ true
unfolding line_byte
line_high b h = rw (ne_eqb b 0 (λ e. omega arith), ne_eqb b 10 (λ e. omega arith), ne_eqb b 13 (λ e. omega arith))

name_range : (b : ℕ) → T (name_byte b) → (33 ≤ b) × (b ≤ 126)
unfolding name_byte
name_range b t = let w = (and_yes (within 33 126 b) (not (eqb b 58)) t).0 in (within_low 33 126 b w, within_high 33 126 b w)

name_line : (b : ℕ) → T (name_byte b) → line_byte b ≡ true
name_line b t = line_high b (omega (arith, (name_range b t).0))

blank_is : (b : ℕ) → T (blank b) → (line_byte b ≡ true) × (b < 128)
unfolding blank line_byte
blank_is b t =
    by_test (eqb b 32)
    (λ u. let e : b ≡ 32 = eqb→eq b 32 u in (rw e, omega arith))
    (λ u. let v : T (eqb b 9) = rw (no_false (eqb b 32) u) at t in let e : b ≡ 9 = eqb→eq b 9 v in (rw e, omega arith))

-- ---- each byte leads to what is left of the text

name_step_lem : (k b : ℕ) (l : List ℕ) → form_rest (Name k) (b ∷ l) ≡ form_rest (form_step (Name k) b) l
unfolding form_rest start_step name_step body_step name_len run
name_step_lem k b l =
    by_test (name_byte b)
    (λ t. rw (yes_true (name_byte b) t, name_line b t) (more k))
    (λ t.
    by_test (eqb b 58)
    (λ u.
    let e : b ≡ 58 = eqb→eq b 58 u in
    rw (no_false (name_byte b) t, leb-zero k, yes_true (eqb b 58) u, line_high b (omega arith)) (and-true (all line_byte l)))
    (λ u. rw (no_false (name_byte b) t, leb-zero k, no_false (eqb b 58) u) (and-false (line_byte b && all line_byte l))))
  where
    more : (k : ℕ) → all line_byte l && (leb (suc (run name_byte l)) k && eqb (get_or l (run name_byte l) 0) 58) ≡ form_rest (name_more k) l
    more zero = rw (leb-suc-zero (run name_byte l)) (and-false (all line_byte l))
    more (suc k) = rw (leb-suc-suc (run name_byte l) k)

start_step_lem : (first : Bool) (b : ℕ) (l : List ℕ) → form_rest (Start first) (b ∷ l) ≡ form_rest (form_step (Start first) b) l
unfolding form_rest start_step name_step body_step continuation named name_len run
start_step_lem first b l =
    by_test (blank b && not first)
    (λ t. rw (yes_true (blank b && not first) t, (blank_is b (and_yes (blank b) (not first) t).0).0) (and-true (all line_byte l)))
    (λ t.
    by_test (name_byte b)
    (λ u. rw (no_false (blank b && not first) t, yes_true (name_byte b) u, name_line b u, le-leb 1 (suc (run name_byte l)) (omega arith), leb-suc-suc (run name_byte l) 75))
    (λ u. rw (no_false (blank b && not first) t, no_false (name_byte b) u) (and-false (line_byte b && all line_byte l))))

form_step_lem : (f : Form) (b : ℕ) (l : List ℕ) → form_rest f (b ∷ l) ≡ form_rest (form_step f b) l
unfolding form_rest start_step name_step body_step
form_step_lem (Start first) b l = start_step_lem first b l
form_step_lem (Name k) b l = name_step_lem k b l
form_step_lem Body b l = by_test (line_byte b) (λ t. rw (yes_true (line_byte b) t)) (λ t. rw (no_false (line_byte b) t))
form_step_lem Bad b l = refl

-- ---- the fewest bytes that complete a form are as many as told

at_end_lem : (f : Form) → T (is_body f) → T (not_bad f) × (form_need f ≡ 0)
at_end_lem (Start first) t = absurd t
at_end_lem (Name j) t = absurd t
at_end_lem Body t = (tt, refl)
at_end_lem Bad t = absurd t

may_end : (f : Form) → T (not_bad f) → form_need f ≡ 0 → T (is_body f)
may_end (Start true) t e = absurd (omega arith)
may_end (Start false) t e = absurd (omega arith)
may_end (Name j) t e = absurd (omega arith)
may_end Body t e = tt
may_end Bad t e = absurd t

most : (f : Form) (b : ℕ) → T (not_bad (form_step f b)) → T (not_bad f) × (form_need f ≤ suc (form_need (form_step f b)))
unfolding start_step
most (Start true) b =
    rw (and-false (blank b)) (cond_has (λ g. T (not_bad g) → Unit × (2 ≤ suc (form_need g))) (name_byte b) (Name 75) Bad (λ u t. (tt, omega arith)) (λ u t. absurd t))
most (Start false) b = λ t. (tt, omega arith)
most (Name j) b = λ t. (tt, omega arith)
most Body b = λ t. (tt, omega arith)
most Bad b = λ t. absurd t

next : (f : Form) (k : ℕ) → T (not_bad f) → form_need f ≡ suc k → (b : ℕ) × (b < 128) × T (not_bad (form_step f b)) × (form_need (form_step f b) ≡ k)
unfolding start_step name_step blank name_byte
next (Start true) k t e = (97, omega arith, tt, omega arith)
next (Start false) k t e = (32, omega arith, tt, omega arith)
next (Name j) k t e = (58, omega arith, tt, omega arith)
next Body k t e = absurd (omega arith)
next Bad k t e = absurd t

no_cr_lem : (f : Form) → T (not (not_bad (form_step f 13)))
unfolding start_step name_step body_step blank name_byte line_byte
no_cr_lem (Start first) = tt
no_cr_lem (Name j) = tt
no_cr_lem Body = tt
no_cr_lem Bad = tt

-- past ASCII only the body goes on, and stays
high_body : (f : Form) (b : ℕ) → 128 ≤ b → T (not_bad (form_step f b)) → form_step f b ≡ Body
unfolding start_step name_step body_step
high_body f b h = go f
  where
    Ends : Form → Type 0
    Ends g = T (not_bad g) → g ≡ Body

    none : T (name_byte b) → ⊥
    none t = omega (arith, (name_range b t).1)

    go : (f : Form) → Ends (form_step f b)
    go (Start first) = cond_has Ends (blank b && not first) Body _ (λ t u. refl) (λ t. cond_has Ends (name_byte b) (Name 75) Bad (λ u. absurd (none u)) (λ u v. absurd v))
    go (Name j) = cond_has Ends (name_byte b) (name_more j) _ (λ t. absurd (none t)) (λ t. cond_has Ends (eqb b 58) Body Bad (λ u v. refl) (λ u v. absurd v))
    go Body = cond_has Ends (line_byte b) Body Bad (λ t u. refl) (λ t u. absurd u)
    go Bad = λ t. absurd t

high_stays : (f : Form) (b c : ℕ) → T (not_bad (form_step f b)) → 128 ≤ b → 128 ≤ c → form_step (form_step f b) c ≡ form_step f b
unfolding body_step
high_stays f b c t h k = rw (high_body f b h t, line_high c (omega arith))

form_tells : Tells form
form_tells = record { at_end_lem = at_end_lem; may_end = may_end; most = most; next = next; no_cr_lem = no_cr_lem; steady = high_stays }

form_completes : Completes form form_rest
form_completes = record { end = form_end; step = form_step_lem }

-- ---- it takes just the well-formed lines

ands : (a b c d : Bool) → a && b && c && d ≡ (a && c) && (b && d)
ands true true c d = refl
ands true false c d = sym (and-false c)
ands false b c d = refl

formed : (first : Bool) (l : List ℕ) → well_formed first l ≡ (leb (length l) 998 && utf8 l) && form_rest (Start first) l
unfolding well_formed form_rest continuation named name_len run blank
formed first [] = sym (and-false (leb 0 998 && utf8 []))
formed first (b ∷ l) =
    rw (le-leb 1 (suc (length l)) (omega arith))
    (ands (leb (suc (length l)) 998) (all line_byte (b ∷ l)) (utf8 (b ∷ l)) (continuation first (b ∷ l) || named (b ∷ l)))

-- it finds the byte that is asked for
pub line_stop_lem : (first : Bool) (s : List ℕ) → LineStop first s (line_stop first s)
unfolding line_stop
line_stop_lem first s = line_stops form_tells form_completes 998 (Start first) (well_formed first) (formed first) s

-- a malformed line has that byte in itself, its CRLF with it, whatever follows
module _ (first : Bool) (text more : List ℕ) (t : T (not (well_formed first text))) where
  pub line_stop_inside : line_stop first (text ++ (13 ∷ 10 ∷ more)) < suc (suc (length text))
  unfolding line_stop
  line_stop_inside = line_inside form_tells form_completes 998 (Start first) (well_formed first) (formed first) text more t

  pub line_stop_alone : line_stop first (text ++ (13 ∷ 10 ∷ more)) ≡ line_stop first (text ++ (13 ∷ 10 ∷ []))
  unfolding line_stop
  line_stop_alone = line_alone form_tells form_completes 998 (Start first) (well_formed first) (formed first) text more t

-- ---- a name's room, as code counts it down

pub name_more_lem : (k : ℕ) → (k ≡ 0 → ⊥) → Name (k - 1) ≡ name_more k
name_more_lem zero z = absurd (z refl)
name_more_lem (suc k) z = let e : suc k - 1 ≡ k = omega arith in rw e
