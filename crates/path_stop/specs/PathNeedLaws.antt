-- As few bytes complete a path and its `>` as are told, and bytes past ASCII leave it where the first of them brought it.
use Rattle.std.specs.Prelude.{◌≡◌, refl, Bool, not, cond, ◌||◌, leb, eqb}
use Rattle.std.proofs.Math.Bool.{true, false, and-false}
use Prim.Native.Nat.{ℕ, suc, ◌≤◌, ◌<◌}
use native.Mathlib.Omega.{arith}
use Rattle.std.proofs.Math.Dec.{T}
use Rattle.std.proofs.Common.{eqb→eq, le-leb, ne_eqb}
use Rattle.std.proofs.Math.Facts.{eqb_no}
use Rattle.std.proofs.lemmas.Bool.{lt-leb}
use Rattle.lists.specs.ListsLaws.{by_test, cond_has, yes_true, no_false}
use Rattle.lists.specs.Byte.{within}
use Rattle.letter_case.specs.LetterCase.{bytes, lower}
use Rattle.address.specs.Address.{is_atext, is_atom_byte, is_quoted_byte, is_literal_byte}
use Rattle.line_stop.proofs.ProductLaws.{Tells}
use Rattle.line_stop.specs.Word.{is_next}
use Rattle.line_stop.proofs.WordLaws.{next_never, next_high}
use Rattle.path_stop.specs.declared.PathForm.{PathForm}
use Rattle.path_stop.specs.declared.PathForm.TheVariants.{Start, Word, Atoms, Quoted, End, Domain, Literal, Closed, Off}
use Rattle.path_stop.specs.PathStop.{end_step, atoms_step, quoted_step, literal_step, domain_step, local_step, word_step, start_step, path_step, is_closed, path_live, word_need, atoms_need, path_need, path}

-- ---- bytes that `Postmaster>` does not have

no_at : (n : ℕ) → is_next (bytes "Postmaster>") n 64 ≡ false
unfolding bytes lower
no_at = next_never (bytes "Postmaster>") 64 tt

no_13 : (n : ℕ) → is_next (bytes "Postmaster>") n 13 ≡ false
unfolding bytes lower
no_13 = next_never (bytes "Postmaster>") 13 tt

no_high : (b : ℕ) → 128 ≤ b → (n : ℕ) → is_next (bytes "Postmaster>") n b ≡ false
unfolding bytes lower
no_high = next_high (bytes "Postmaster>") tt

-- ---- the fewest bytes

at_end_lem : (p : PathForm) → T (is_closed p) → T (path_live p) × (path_need p ≡ 0)
at_end_lem (Start mail) t = absurd t
at_end_lem (Word n) t = absurd t
at_end_lem (Atoms domain due) t = absurd t
at_end_lem (Quoted escaped) t = absurd t
at_end_lem (End domain) t = absurd t
at_end_lem Domain t = absurd t
at_end_lem Literal t = absurd t
at_end_lem Closed t = (tt, refl)
at_end_lem Off t = absurd t

word_some : (n : ℕ) → 1 ≤ word_need n
unfolding word_need
word_some n =
    cond_has (λ m. 1 ≤ m) (eqb n 9) 2 _ (λ t. omega arith) (λ t. cond_has (λ m. 1 ≤ m) (eqb n 10) 1 3 (λ u. omega arith) (λ u. omega arith))

word_most : (n : ℕ) → word_need n ≤ 3
unfolding word_need
word_most n =
    cond_has (λ m. m ≤ 3) (eqb n 9) 2 _ (λ t. omega arith) (λ t. cond_has (λ m. m ≤ 3) (eqb n 10) 1 3 (λ u. omega arith) (λ u. omega arith))

word_one : 3 ≤ word_need 1
unfolding word_need
word_one = omega arith

word_last : (n : ℕ) → n ≡ 10 → word_need n ≤ 1
unfolding word_need
word_last n e = rw e (omega arith)

-- one byte more of `Postmaster>`
word_more : (n : ℕ) → (n ≡ 10 → ⊥) → word_need n ≤ suc (word_need (suc n))
unfolding word_need
word_more n z =
    by_test (eqb n 9)
    (λ t. let e : n ≡ 9 = eqb→eq n 9 t in rw e (omega arith))
    (λ t.
    let x = eqb_no {a = n} {b = 9} t in
    rw (no_false (eqb n 9) t, ne_eqb n 10 z, ne_eqb (suc n) 10 (λ e. omega (arith, x)))
    (cond_has (λ m. 3 ≤ suc m) (eqb (suc n) 9) 2 3 (λ u. omega arith) (λ u. omega arith)))

may_end : (p : PathForm) → T (path_live p) → path_need p ≡ 0 → T (is_closed p)
unfolding atoms_need
may_end (Start true) t e = absurd (omega arith)
may_end (Start false) t e = absurd (omega arith)
may_end (Word n) t e = absurd (omega (arith, word_some n))
may_end (Atoms true true) t e = absurd (omega arith)
may_end (Atoms true false) t e = absurd (omega arith)
may_end (Atoms false true) t e = absurd (omega arith)
may_end (Atoms false false) t e = absurd (omega arith)
may_end (Quoted true) t e = absurd (omega arith)
may_end (Quoted false) t e = absurd (omega arith)
may_end (End true) t e = absurd (omega arith)
may_end (End false) t e = absurd (omega arith)
may_end Domain t e = absurd (omega arith)
may_end Literal t e = absurd (omega arith)
may_end Closed t e = tt
may_end Off t e = absurd t

-- a byte that leaves hope leaves n bytes at least
abbrev Leaves : ℕ → PathForm → Type 0
Leaves n p = T (path_live p) → n ≤ path_need p

module _ (b : ℕ) where
  end_leaves : (domain : Bool) → Leaves (cond domain 0 2) (end_step domain b)
  unfolding end_step
  end_leaves false = cond_has (Leaves 2) (eqb b 64) Domain Off (λ t u. omega arith) (λ t u. absurd u)
  end_leaves true = λ u. omega arith

  -- after an atom, one byte less; where one is due, as many as after it
  atoms_leave : (domain due : Bool) → Leaves (cond due (atoms_need domain false) (cond domain 0 2)) (atoms_step domain due b)
  unfolding atoms_step atoms_need
  atoms_leave true true = cond_has (Leaves 1) (is_atom_byte b) (Atoms true false) Off (λ t u. omega arith) (λ t u. absurd u)
  atoms_leave false true = cond_has (Leaves 3) (is_atom_byte b) (Atoms false false) Off (λ t u. omega arith) (λ t u. absurd u)
  atoms_leave true false = λ u. omega arith
  atoms_leave false false =
      cond_has (Leaves 2) (is_atom_byte b) (Atoms false false) _ (λ t u. omega arith)
      (λ t. cond_has (Leaves 2) (eqb b 46) (Atoms false true) (end_step false b) (λ u v. omega arith) (λ u. end_leaves false))

  local_leaves : Leaves 3 (local_step b)
  unfolding local_step atoms_need
  local_leaves = cond_has (Leaves 3) (eqb b 34) (Quoted false) (atoms_step false true b) (λ t u. omega arith) (λ t. atoms_leave false true)

  word_leaves : (n : ℕ) → T (path_live (word_step n b)) → word_need n ≤ suc (path_need (word_step n b))
  unfolding word_step
  word_leaves n =
      cond_has Most (is_next (bytes "Postmaster>") n b) _ (atoms_step false false b)
      (λ t.
      cond_has Most (eqb n 10) Closed (Word (suc n))
      (λ u v. word_last n (eqb→eq n 10 u))
      (λ u v. word_more n (eqb_no {a = n} {b = 10} u)))
      (λ t u. omega (arith, word_most n, atoms_leave false false u))
    where
      Most : PathForm → Type 0
      Most p = T (path_live p) → word_need n ≤ suc (path_need p)

module _ (b : ℕ) where
  start_most : (mail : Bool) → T (path_live (start_step mail b)) → cond mail 1 4 ≤ suc (path_need (start_step mail b))
  unfolding start_step
  start_most true = λ t. omega arith
  start_most false =
      cond_has (λ p. T (path_live p) → 4 ≤ suc (path_need p)) (is_next (bytes "Postmaster>") 0 b) (Word 1) (local_step b)
      (λ t u. omega (arith, word_one))
      (λ t u. omega (arith, local_leaves b u))

  atoms_most : (domain due : Bool) → T (path_live (atoms_step domain due b)) → atoms_need domain due ≤ suc (path_need (atoms_step domain due b))
  unfolding atoms_need
  atoms_most true true t = omega (arith, atoms_leave b true true t)
  atoms_most false true t = omega (arith, atoms_leave b false true t)
  atoms_most true false t = omega arith
  atoms_most false false t = omega (arith, atoms_leave b false false t)

  quoted_most : (escaped : Bool) → T (path_live (quoted_step escaped b)) → cond escaped 5 4 ≤ suc (path_need (quoted_step escaped b))
  unfolding quoted_step atoms_need
  quoted_most true = cond_has (λ p. T (path_live p) → 5 ≤ suc (path_need p)) (within 32 126 b) (Quoted false) Off (λ t u. omega arith) (λ t u. absurd u)
  quoted_most false =
      cond_has Most (eqb b 34) (End false) _ (λ t u. omega arith)
      (λ t. cond_has Most (is_quoted_byte b) (Quoted (eqb b 92)) Off (λ u v. omega (arith, four (eqb b 92))) (λ u v. absurd v))
    where
      Most : PathForm → Type 0
      Most p = T (path_live p) → 4 ≤ suc (path_need p)

      four : (e : Bool) → 4 ≤ cond e 5 4
      four true = omega arith
      four false = omega arith

  end_most : (domain : Bool) → T (path_live (end_step domain b)) → atoms_need domain false ≤ suc (path_need (end_step domain b))
  unfolding atoms_need
  end_most true t = omega arith
  end_most false t = omega (arith, end_leaves b false t)

  domain_most : T (path_live (domain_step b)) → 2 ≤ suc (path_need (domain_step b))
  unfolding domain_step atoms_need
  domain_most =
      cond_has (λ p. T (path_live p) → 2 ≤ suc (path_need p)) (eqb b 91) Literal (atoms_step true true b)
      (λ t u. omega arith)
      (λ t u. omega (arith, atoms_leave b true true u))

  literal_most : T (path_live (literal_step b)) → 2 ≤ suc (path_need (literal_step b))
  unfolding literal_step atoms_need
  literal_most =
      cond_has (λ p. T (path_live p) → 2 ≤ suc (path_need p)) (is_literal_byte b) Literal _
      (λ t u. omega arith)
      (λ t. cond_has (λ p. T (path_live p) → 2 ≤ suc (path_need p)) (eqb b 93) (End true) Off (λ u v. omega arith) (λ u v. absurd v))

most : (p : PathForm) (b : ℕ) → T (path_live (path_step p b)) → T (path_live p) × (path_need p ≤ suc (path_need (path_step p b)))
most (Start mail) b t = (tt, start_most b mail t)
most (Word n) b t = (tt, word_leaves b n t)
most (Atoms domain due) b t = (tt, atoms_most b domain due t)
most (Quoted escaped) b t = (tt, quoted_most b escaped t)
most (End domain) b t = (tt, end_most b domain t)
most Domain b t = (tt, domain_most b t)
most Literal b t = (tt, literal_most b t)
most Closed b t = absurd t
most Off b t = absurd t

-- a byte that is the next of as few as there are
abbrev Next : PathForm → ℕ → Type 0
Next p k = (b : ℕ) × (b < 128) × T (path_live (path_step p b)) × (path_need (path_step p b) ≡ k)

-- `r` (114), `>` (62), `@` (64)
word_next : (n k : ℕ) → word_need n ≡ suc k → Next (Word n) k
unfolding word_step word_need is_next bytes lower atoms_step end_step is_atom_byte is_atext
word_next n k e =
    by_test (eqb n 9)
    (λ t.
    let f = rw (yes_true (eqb n 9) t) at e in
    let g : n ≡ 9 = eqb→eq n 9 t in
    (114, omega arith, rw g tt, rw g (omega arith)))
    (λ t.
    by_test (eqb n 10)
    (λ u.
    let f = rw (no_false (eqb n 9) t, yes_true (eqb n 10) u) at e in
    let g : n ≡ 10 = eqb→eq n 10 u in
    (62, omega arith, rw g tt, rw g (omega arith)))
    (λ u.
    let f = rw (no_false (eqb n 9) t, no_false (eqb n 10) u) at e in
    (64, omega arith, rw (no_at n) tt, rw (no_at n) (omega arith))))

next : (p : PathForm) (k : ℕ) → T (path_live p) → path_need p ≡ suc k → Next p k
unfolding start_step local_step quoted_step domain_step literal_step atoms_step end_step atoms_need is_atom_byte is_atext is_literal_byte is_next bytes lower
next (Start true) k t e = (62, omega arith, tt, omega arith)
next (Start false) k t e = (97, omega arith, tt, omega arith)
next (Word n) k t e = word_next n k e
next (Atoms true true) k t e = (97, omega arith, tt, omega arith)
next (Atoms false true) k t e = (97, omega arith, tt, omega arith)
next (Atoms true false) k t e = (62, omega arith, tt, omega arith)
next (Atoms false false) k t e = (64, omega arith, tt, omega arith)
next (Quoted true) k t e = (97, omega arith, tt, omega arith)
next (Quoted false) k t e = (34, omega arith, tt, omega arith)
next (End true) k t e = (62, omega arith, tt, omega arith)
next (End false) k t e = (64, omega arith, tt, omega arith)
next Domain k t e = (97, omega arith, tt, omega arith)
next Literal k t e = (93, omega arith, tt, omega arith)
next Closed k t e = absurd (omega arith)
next Off k t e = absurd t

no_cr_lem : (p : PathForm) → T (not (path_live (path_step p 13)))
unfolding start_step local_step word_step quoted_step domain_step literal_step atoms_step end_step is_atom_byte is_atext is_quoted_byte is_literal_byte is_next bytes lower
no_cr_lem (Start true) = tt
no_cr_lem (Start false) = tt
no_cr_lem (Word n) = rw (no_13 n) tt
no_cr_lem (Atoms true true) = tt
no_cr_lem (Atoms false true) = tt
no_cr_lem (Atoms true false) = tt
no_cr_lem (Atoms false false) = tt
no_cr_lem (Quoted true) = tt
no_cr_lem (Quoted false) = tt
no_cr_lem (End true) = tt
no_cr_lem (End false) = tt
no_cr_lem Domain = tt
no_cr_lem Literal = tt
no_cr_lem Closed = tt
no_cr_lem Off = tt

-- ---- past ASCII only atoms and quoted strings go on, and stay

high_atom : (b : ℕ) → 128 ≤ b → T (is_atom_byte b)
unfolding is_atom_byte
high_atom b h = rw (le-leb 128 b h) (or_yes (is_atext b))
  where
    or_yes : (a : Bool) → T (a || true)
    or_yes true = tt
    or_yes false = tt

high_quoted : (b : ℕ) → 128 ≤ b → is_quoted_byte b ≡ true
unfolding is_quoted_byte
high_quoted b h = rw (lt-leb b 126 (omega arith), and-false (leb 32 b), le-leb 128 b h)

high_literal : (b : ℕ) → 128 ≤ b → is_literal_byte b ≡ false
unfolding is_literal_byte
high_literal b h = rw (lt-leb b 90 (omega arith), and-false (leb 33 b), lt-leb b 126 (omega arith), and-false (leb 94 b))

high_stays : (p : PathForm) (b c : ℕ) → T (path_live (path_step p b)) → 128 ≤ b → 128 ≤ c → path_step (path_step p b) c ≡ path_step p b
unfolding start_step local_step word_step quoted_step domain_step literal_step atoms_step end_step
high_stays p b c t h k = go p t
  where
    Stays : PathForm → Type 0
    Stays q = T (path_live q) → path_step q c ≡ q

    atoms : (domain : Bool) → Stays (Atoms domain false)
    atoms domain u = rw (yes_true (is_atom_byte c) (high_atom c k))

    quoted : Stays (Quoted false)
    quoted u = rw (ne_eqb c 34 (λ e. omega arith), high_quoted c k, ne_eqb c 92 (λ e. omega arith))

    other : (d : ℕ) → d < 128 → eqb b d ≡ false
    other d l = ne_eqb b d (λ e. omega arith)

    go : (p : PathForm) → Stays (path_step p b)
    go (Start true) = rw (other 62 (omega arith), other 34 (omega arith), yes_true (is_atom_byte b) (high_atom b h)) (atoms false)
    go (Start false) = rw (no_high b h 0, other 34 (omega arith), yes_true (is_atom_byte b) (high_atom b h)) (atoms false)
    go (Word n) = rw (no_high b h n, yes_true (is_atom_byte b) (high_atom b h)) (atoms false)
    go (Atoms domain due) = rw (yes_true (is_atom_byte b) (high_atom b h)) (atoms domain)
    go (Quoted true) = rw (lt-leb b 126 (omega arith), and-false (leb 32 b)) (λ u. absurd u)
    go (Quoted false) = rw (other 34 (omega arith), high_quoted b h, other 92 (omega arith)) quoted
    go (End true) = rw (other 62 (omega arith)) (λ u. absurd u)
    go (End false) = rw (other 64 (omega arith)) (λ u. absurd u)
    go Domain = rw (other 91 (omega arith), yes_true (is_atom_byte b) (high_atom b h)) (atoms true)
    go Literal = rw (high_literal b h, other 93 (omega arith)) (λ u. absurd u)
    go Closed = λ u. absurd u
    go Off = λ u. absurd u

pub path_tells : Tells path
path_tells = record { at_end_lem = at_end_lem; may_end = may_end; most = most; next = next; no_cr_lem = no_cr_lem; steady = high_stays }
