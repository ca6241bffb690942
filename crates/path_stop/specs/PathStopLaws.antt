-- Laws of the path of an envelope line by one byte at a time: each byte leads to what is left of a path, its `>` and what passes after
-- it.
use Rattle.std.specs.Prelude.{◌≡◌, Bool, cond, ◌&&◌, ◌||◌, T, leb, ltb, eqb, length, take, drop, get_or, Result, Ok, Err}
use Rattle.std.proofs.Math.Path.{refl, sym}
use Rattle.std.proofs.Common.{◌∙◌, arith}
use Rattle.std.proofs.Math.Bool.{true, false, not, and-false, or-false}
use mathlib.Core.List.{List, [], ◌∷◌, ◌++◌}
use Prim.Native.Nat.{ℕ, suc, ◌+◌, ◌<◌}
use Rattle.std.proofs.Math.Dec.{eqb→eq}
use Rattle.std.proofs.Math.Seq.{drop-drop}
use Rattle.std.proofs.Math.Facts.{and_yes, yes_and, ltb_yes, eqb_no}
use borrow.Author.Tests.{lt-ltb, le-leb}
use Rattle.lists.specs.Lists.{all}
use Rattle.lists.specs.ListsLaws.{by_test, yes_true, no_false}
use Rattle.lists.specs.Byte.{within}
use Rattle.lists.specs.ByteLaws.{within_low, within_high, below}
use Rattle.lists.specs.Run.{run}
use Rattle.letter_case.specs.LetterCase.{bytes, lower, same_any_case}
use Rattle.address.specs.Address.{later, byte_then, scan_then, is_atext, is_atom_byte, is_quoted_byte, is_literal_byte, dot_atom_end, dot_atom_from, dot_atom_scan, quoted_from, quoted_scan, literal_from, literal_scan, domain_scan, local_scan, address_scan}
use Rattle.envelope_line.specs.EnvelopeLine.{path_scan}
use Rattle.envelope_line.proofs.LineGrammarLaws.{lower_mark}
use Rattle.line_stop.specs.Word.{is_next}
use Rattle.line_stop.proofs.WordLaws.{begins, begins_is, begins_short, begins_more, begins_other}
use Rattle.path_stop.specs.declared.PathForm.{PathForm}
use Rattle.path_stop.specs.declared.PathForm.TheVariants.{Start, Word, Atoms, Quoted, End, Domain, Literal, Closed, Off}
use Rattle.path_stop.specs.PathStop.{end_step, atoms_step, quoted_step, literal_step, domain_step, local_step, word_step, start_step, path_step, is_closed}

-- ---- a scan that ends, and what passes after it

unfoldable pub ends : Result ℕ ℕ → List ℕ → (List ℕ → Bool) → Bool
ends (Ok n) s k = k (drop n s)
ends (Err n) s k = false

ends_later : (x : Result ℕ ℕ) (b : ℕ) (s : List ℕ) (k : List ℕ → Bool) → ends (later 1 x) (b ∷ s) k ≡ ends x s k
unfolding ends later
ends_later (Ok n) b s k = let e : 1 + n ≡ suc n = omega arith in rw e
ends_later (Err n) b s k = refl

ends_moved : (n : ℕ) (x : Result ℕ ℕ) (s : List ℕ) (k : List ℕ → Bool) → ends (later n x) s k ≡ ends x (drop n s) k
unfolding ends later
ends_moved n (Ok m) s k = rw (drop-drop m n s)
ends_moved n (Err m) s k = refl

ends_then : (x : Result ℕ ℕ) (next : List ℕ → Result ℕ ℕ) (s : List ℕ) (k : List ℕ → Bool) → ends (scan_then x next s) s k ≡ ends x s (λ t. ends (next t) t k)
unfolding ends scan_then
ends_then (Ok n) next s k = ends_moved n (next (drop n s)) s k
ends_then (Err n) next s k = refl

-- ---- bytes

atom_not : (b c : ℕ) → T (is_atom_byte b) → (T (is_atom_byte c) → ⊥) → eqb b c ≡ false
atom_not b c t z = by_test (eqb b c) (λ u. absurd (z (rw (← eqb→eq b c u) t))) (λ u. no_false (eqb b c) u)

dot_no_atom : T (is_atom_byte 46) → ⊥
unfolding is_atom_byte is_atext
dot_no_atom t = t

quote_no_atom : T (is_atom_byte 34) → ⊥
unfolding is_atom_byte is_atext
quote_no_atom t = t

letter_atom : (b : ℕ) → T (within 97 122 (lower b)) → T (is_atom_byte b)
unfolding lower is_atom_byte is_atext
letter_atom b t =
    by_test (leb 65 b && leb b 90)
    (λ u. rw (yes_true (leb 65 b && leb b 90) u) tt)
    (λ u.
    let v : T (within 97 122 b) = rw (no_false (leb 65 b && leb b 90) u) at t in
    let low = within_low 97 122 b v in
    let high = within_high 97 122 b v in
    rw (no_false (leb 65 b && leb b 90) u, le-leb 94 b (omega arith), le-leb b 126 (omega arith)) tt)

atom_more : (domain due : Bool) (b : ℕ) → T (is_atom_byte b) → atoms_step domain due b ≡ Atoms domain false
unfolding atoms_step
atom_more domain due b t = rw (yes_true (is_atom_byte b) t)

local_more : (b : ℕ) → T (is_atom_byte b) → local_step b ≡ Atoms false false
unfolding local_step
local_more b t = rw (atom_not b 34 t quote_no_atom) (atom_more false true b t)

-- ---- what completes a path

module _ (k : List ℕ → Bool) where
  -- `>`, and what passes after it
  abbrev closed : List ℕ → Bool
  closed l = eqb (get_or l 0 0) 62 && k (drop 1 l)

  -- `@`, a domain, `>`
  abbrev at_domain : List ℕ → Bool
  at_domain l = ends (byte_then 64 domain_scan l) l closed

  abbrev part_end : Bool → List ℕ → Bool
  part_end false l = at_domain l
  part_end true l = closed l

  unfoldable pub path_rest : PathForm → List ℕ → Bool
  path_rest (Start mail) l = ends (path_scan mail l) l closed
  path_rest (Word n) l = (ltb n 11 && begins (drop n (bytes "Postmaster>")) k l) || ends (dot_atom_from false l) l (part_end false)
  path_rest (Atoms domain due) l = ends (dot_atom_from due l) l (part_end domain)
  path_rest (Quoted escaped) l = ends (quoted_from escaped l) l (part_end false)
  path_rest (End domain) l = part_end domain l
  path_rest Domain l = ends (domain_scan l) l closed
  path_rest Literal l = ends (literal_from l) l closed
  path_rest Closed l = k l
  path_rest Off l = false

  end_step_lem : (domain : Bool) (b : ℕ) (l : List ℕ) → part_end domain (b ∷ l) ≡ path_rest (end_step domain b) l
  unfolding path_rest end_step byte_then ends
  end_step_lem false b l =
      by_test (eqb b 64) (λ t. rw (yes_true (eqb b 64) t) (ends_later (domain_scan l) b l closed)) (λ t. rw (no_false (eqb b 64) t))
  end_step_lem true b l = by_test (eqb b 62) (λ t. rw (yes_true (eqb b 62) t)) (λ t. rw (no_false (eqb b 62) t))

  end_none : (domain : Bool) → part_end domain [] ≡ false
  unfolding byte_then ends
  end_none false = refl
  end_none true = refl

  atoms_step_lem : (domain due : Bool) (b : ℕ) (l : List ℕ) → ends (dot_atom_from due (b ∷ l)) (b ∷ l) (part_end domain) ≡ path_rest (atoms_step domain due b) l
  unfolding path_rest atoms_step dot_atom_from ends
  atoms_step_lem domain due b l =
      by_test (is_atom_byte b)
      (λ t. rw (yes_true (is_atom_byte b) t, atom_not b 46 t dot_no_atom) (ends_later (dot_atom_from false l) b l (part_end domain)))
      (λ t. rw (no_false (is_atom_byte b) t) (other due))
    where
      other : (due : Bool)
          → ends (cond (eqb b 46 && not due) (later 1 (dot_atom_from (eqb b 46 && not due) l)) (dot_atom_end due)) (b ∷ l) (part_end domain)
          ≡ path_rest (cond due Off (cond (eqb b 46) (Atoms domain true) (end_step domain b))) l
      other true = rw (and-false (eqb b 46))
      other false =
          by_test (eqb b 46)
          (λ u. rw (yes_true (eqb b 46) u) (ends_later (dot_atom_from true l) b l (part_end domain)))
          (λ u. rw (no_false (eqb b 46) u) (end_step_lem domain b l))

  atoms_none : (domain due : Bool) → ends (dot_atom_from due []) [] (part_end domain) ≡ false
  unfolding dot_atom_from ends
  atoms_none domain true = refl
  atoms_none domain false = end_none domain

  quoted_step_lem : (escaped : Bool) (b : ℕ) (l : List ℕ) → ends (quoted_from escaped (b ∷ l)) (b ∷ l) (part_end false) ≡ path_rest (quoted_step escaped b) l
  unfolding path_rest quoted_step quoted_from ends
  quoted_step_lem true b l =
      by_test (within 32 126 b)
      (λ t. rw (yes_true (within 32 126 b) t) (ends_later (quoted_from false l) b l (part_end false)))
      (λ t. rw (no_false (within 32 126 b) t))
  quoted_step_lem false b l =
      by_test (eqb b 34)
      (λ t. rw (yes_true (eqb b 34) t))
      (λ t.
      by_test (is_quoted_byte b)
      (λ u. rw (no_false (eqb b 34) t, yes_true (is_quoted_byte b) u) (ends_later (quoted_from (eqb b 92) l) b l (part_end false)))
      (λ u. rw (no_false (eqb b 34) t, no_false (is_quoted_byte b) u)))

  literal_step_lem : (b : ℕ) (l : List ℕ) → ends (literal_from (b ∷ l)) (b ∷ l) closed ≡ path_rest (literal_step b) l
  unfolding path_rest literal_step literal_from ends run
  literal_step_lem b l =
      by_test (is_literal_byte b)
      (λ t. rw (yes_true (is_literal_byte b) t) (more (eqb (get_or l n 0) 93)))
      (λ t.
      by_test (eqb b 93)
      (λ u. rw (no_false (is_literal_byte b) t, yes_true (eqb b 93) u))
      (λ u. rw (no_false (is_literal_byte b) t, no_false (eqb b 93) u)))
    where
      n : ℕ
      n = run is_literal_byte l

      more : (x : Bool) → ends (cond x (Ok (suc n + 1)) (Err (suc n))) (b ∷ l) closed ≡ ends (cond x (Ok (n + 1)) (Err n)) l closed
      more true = let e : suc n + 1 ≡ suc (n + 1) = omega arith in rw e
      more false = refl

  domain_step_lem : (b : ℕ) (l : List ℕ) → ends (domain_scan (b ∷ l)) (b ∷ l) closed ≡ path_rest (domain_step b) l
  unfolding path_rest domain_step domain_scan literal_scan dot_atom_scan byte_then
  domain_step_lem b l =
      by_test (eqb b 91)
      (λ t. rw (yes_true (eqb b 91) t) (ends_later (literal_from l) b l closed))
      (λ t. rw (no_false (eqb b 91) t) (atoms_step_lem true true b l))

  local_step_lem : (b : ℕ) (l : List ℕ) → ends (address_scan (b ∷ l)) (b ∷ l) closed ≡ path_rest (local_step b) l
  unfolding path_rest local_step address_scan local_scan quoted_scan dot_atom_scan byte_then
  local_step_lem b l =
      ends_then (local_scan (b ∷ l)) (byte_then 64 domain_scan) (b ∷ l) closed
      ∙ by_test (eqb b 34)
      (λ t. rw (yes_true (eqb b 34) t) (ends_later (quoted_from false l) b l (part_end false)))
      (λ t. rw (no_false (eqb b 34) t) (atoms_step_lem false true b l))

-- ---- `Postmaster>`

letter_at : (n : ℕ) → n < 10 → T (within 97 122 (lower (get_or (bytes "Postmaster>") n 0)))
unfolding bytes lower
letter_at n h = below (λ i. within 97 122 (lower (get_or (bytes "Postmaster>") i 0))) 10 tt n h

next_parts : (n b : ℕ) → T (is_next (bytes "Postmaster>") n b) → (n < 11) × (lower (get_or (bytes "Postmaster>") n 0) ≡ lower b)
unfolding is_next bytes
next_parts n b t =
    let x = lower (get_or (bytes "Postmaster>") n 0) in
    let both = and_yes (ltb n 11) (eqb x (lower b)) t in
    (ltb_yes both.0, eqb→eq x (lower b) both.1)

-- all but the last byte are letters
pub next_atom : (n b : ℕ) → T (is_next (bytes "Postmaster>") n b) → (n ≡ 10 → ⊥) → T (is_atom_byte b)
next_atom n b t z = let p = next_parts n b t in letter_atom b (rw p.1 at (letter_at n (omega (arith, p.0, z))))

next_close : (b : ℕ) → T (is_next (bytes "Postmaster>") 10 b) → b ≡ 62
unfolding bytes lower
next_close b t = lower_mark 62 b (omega arith) (next_parts 10 b t).1

module _ (k : List ℕ → Bool) (n b : ℕ) (l : List ℕ) where
  word_more : T (is_next (bytes "Postmaster>") n b)
      → path_rest k (Word n) (b ∷ l) ≡ (begins (drop (suc n) (bytes "Postmaster>")) k l || path_rest k (atoms_step false false b) l)
  unfolding path_rest
  word_more t = rw (lt-ltb n 11 (next_parts n b t).0, begins_more (bytes "Postmaster>") n b k l t, atoms_step_lem k false false b l)

  word_other : T (not (is_next (bytes "Postmaster>") n b)) → path_rest k (Word n) (b ∷ l) ≡ path_rest k (atoms_step false false b) l
  unfolding path_rest bytes
  word_other t =
      by_test (ltb n 11)
      (λ u. rw (yes_true (ltb n 11) u, begins_other (bytes "Postmaster>") n b k l (ltb_yes u) t, atoms_step_lem k false false b l))
      (λ u. rw (no_false (ltb n 11) u, atoms_step_lem k false false b l))

  word_last : T (is_next (bytes "Postmaster>") n b) → n ≡ 10 → (begins (drop (suc n) (bytes "Postmaster>")) k l || path_rest k (atoms_step false false b) l) ≡ k l
  unfolding path_rest bytes begins atoms_step end_step is_atom_byte is_atext
  word_last t e =
      let close : b ≡ 62 = next_close b (rw e at t) in
      rw (e, close) (or-false (k l))

  word_inside : T (is_next (bytes "Postmaster>") n b) → (n ≡ 10 → ⊥)
      → (begins (drop (suc n) (bytes "Postmaster>")) k l || path_rest k (atoms_step false false b) l) ≡ path_rest k (Word (suc n)) l
  unfolding path_rest
  word_inside t z = rw (atom_more false false b (next_atom n b t z), lt-ltb (suc n) 11 (omega (arith, (next_parts n b t).0, z)))

  word_step_lem : path_rest k (Word n) (b ∷ l) ≡ path_rest k (word_step n b) l
  unfolding path_rest word_step
  word_step_lem =
      by_test (is_next (bytes "Postmaster>") n b)
      (λ t.
      rw (yes_true (is_next (bytes "Postmaster>") n b) t)
      (word_more t
      ∙ by_test (eqb n 10)
      (λ u. rw (yes_true (eqb n 10) u) (word_last t (eqb→eq n 10 u)))
      (λ u. rw (no_false (eqb n 10) u) (word_inside t (eqb_no {a = n} {b = 10} u)))))
      (λ t. rw (no_false (is_next (bytes "Postmaster>") n b) t) (word_other t))

-- ---- the start of a path

-- a word of letters and `>`
Marked : List ℕ → List ℕ → Type 0
Marked w l = T (begins (w ++ (62 ∷ [])) (λ x. true) l)

mark_at : (w l : List ℕ) → Marked w l → get_or (drop (length w) l) 0 0 ≡ 62
unfolding Marked begins lower
mark_at [] [] t = absurd t
mark_at [] (b ∷ l) t = lower_mark 62 b (omega arith) (eqb→eq 62 (lower b) (and_yes (eqb 62 (lower b)) true t).0)
mark_at (x ∷ w) [] t = absurd t
mark_at (x ∷ w) (b ∷ l) t = mark_at w l (and_yes (eqb (lower x) (lower b)) (begins (w ++ (62 ∷ [])) (λ x. true) l) t).1

abbrev is_letter : ℕ → Bool
is_letter x = within 97 122 (lower x)

module _ (k : List ℕ → Bool) where
  atoms_off : (l : List ℕ) → path_rest k (atoms_step false false 62) l ≡ false
  unfolding path_rest atoms_step end_step is_atom_byte is_atext
  atoms_off l = refl

  -- it is no local part before an `@`
  mark_atoms : (w l : List ℕ) → T (all is_letter w) → Marked w l → path_rest k (Atoms false false) l ≡ false
  unfolding Marked begins path_rest
  mark_atoms [] [] h t = absurd t
  mark_atoms [] (b ∷ l) h t = let e : b ≡ 62 = mark_at [] (b ∷ l) t in atoms_step_lem k false false b l ∙ rw e (atoms_off l)
  mark_atoms (x ∷ w) [] h t = absurd t
  mark_atoms (x ∷ w) (b ∷ l) h t =
      let both = and_yes (eqb (lower x) (lower b)) (begins (w ++ (62 ∷ [])) (λ x. true) l) t in
      let letters = and_yes (is_letter x) (all is_letter w) h in
      let e : lower x ≡ lower b = eqb→eq (lower x) (lower b) both.0 in
      atoms_step_lem k false false b l ∙ rw (atom_more false false b (letter_atom b (rw e at letters.0))) (mark_atoms w l letters.1 both.1)

  mark_address : (x : ℕ) (w l : List ℕ) → T (is_letter x) → T (all is_letter w) → Marked (x ∷ w) l → ends (address_scan l) l (closed k) ≡ false
  unfolding Marked begins
  mark_address x w [] h hs t = absurd t
  mark_address x w (b ∷ l) h hs t =
      let both = and_yes (eqb (lower x) (lower b)) (begins (w ++ (62 ∷ [])) (λ x. true) l) t in
      let e : lower x ≡ lower b = eqb→eq (lower x) (lower b) both.0 in
      local_step_lem k b l ∙ rw (local_more b (letter_atom b (rw e at h))) (mark_atoms w l hs both.1)

  word_front : (l : List ℕ) → begins (bytes "Postmaster>") k l ≡ same_any_case (bytes "Postmaster>") (take 11 l) && k (drop 11 l)
  unfolding bytes
  word_front l = sym (begins_is (bytes "Postmaster>") k l)

  word_found : (l : List ℕ) → T (same_any_case (bytes "Postmaster>") (take 11 l)) → closed k (drop 10 l) ≡ (begins (bytes "Postmaster>") k l || ends (address_scan l) l (closed k))
  unfolding bytes lower Marked
  word_found l t =
      let same = same_any_case (bytes "Postmaster>") (take 11 l) in
      let mark : Marked (bytes "Postmaster") l = rw (begins_is (bytes "Postmaster>") (λ x. true) l) at (yes_and same true t tt) in
      rw (mark_at (bytes "Postmaster") l mark, drop-drop 1 10 l, word_front l, yes_true same t, mark_address 80 (bytes "ostmaster") l tt tt mark)
      (sym (or-false (k (drop 11 l))))

  rcpt_is : (l : List ℕ) → ends (path_scan false l) l (closed k) ≡ (begins (bytes "Postmaster>") k l || ends (address_scan l) l (closed k))
  unfolding path_scan ends
  rcpt_is l =
      let same = same_any_case (bytes "Postmaster>") (take 11 l) in
      by_test same (λ t. rw (yes_true same t) (word_found l t)) (λ t. rw (word_front l, no_false same t))

  rcpt_step : (b : ℕ) (l : List ℕ) → path_rest k (Start false) (b ∷ l) ≡ path_rest k (start_step false b) l
  unfolding path_rest start_step bytes
  rcpt_step b l =
      let next = is_next (bytes "Postmaster>") 0 b in
      rcpt_is (b ∷ l)
      ∙ by_test next
      (λ t. rw (yes_true next t, local_step_lem k b l, local_more b (next_atom 0 b t (λ e. omega arith)), begins_more (bytes "Postmaster>") 0 b k l t))
      (λ t. rw (no_false next t, local_step_lem k b l, begins_other (bytes "Postmaster>") 0 b k l (omega arith) t))

  mail_step : (b : ℕ) (l : List ℕ) → path_rest k (Start true) (b ∷ l) ≡ path_rest k (start_step true b) l
  unfolding path_rest start_step path_scan ends
  mail_step b l =
      by_test (eqb b 62)
      (λ t. rw (yes_true (eqb b 62) t) (rw (yes_true (eqb b 62) t)))
      (λ t. rw (no_false (eqb b 62) t) (local_step_lem k b l))

  -- each byte before the `>` and that one
  pub path_step_lem : (p : PathForm) (b : ℕ) (l : List ℕ) → T (not (is_closed p)) → path_rest k p (b ∷ l) ≡ path_rest k (path_step p b) l
  unfolding path_rest
  path_step_lem (Start true) b l t = mail_step b l
  path_step_lem (Start false) b l t = rcpt_step b l
  path_step_lem (Word n) b l t = word_step_lem k n b l
  path_step_lem (Atoms domain due) b l t = atoms_step_lem k domain due b l
  path_step_lem (Quoted escaped) b l t = quoted_step_lem k escaped b l
  path_step_lem (End domain) b l t = end_step_lem k domain b l
  path_step_lem Domain b l t = domain_step_lem k b l
  path_step_lem Literal b l t = literal_step_lem k b l
  path_step_lem Closed b l t = absurd t
  path_step_lem Off b l t = refl

  -- without its `>` a path is not complete
  pub path_none : (p : PathForm) → T (not (is_closed p)) → path_rest k p [] ≡ false
  unfolding path_rest ends path_scan address_scan local_scan dot_atom_scan dot_atom_from scan_then quoted_from domain_scan literal_from run same_any_case bytes byte_then
  path_none (Start true) t = refl
  path_none (Start false) t = refl
  path_none (Word n) t =
      by_test (ltb n 11)
      (λ u. rw (yes_true (ltb n 11) u, begins_short (bytes "Postmaster>") n k (ltb_yes u)))
      (λ u. rw (no_false (ltb n 11) u))
  path_none (Atoms domain due) t = atoms_none k domain due
  path_none (Quoted true) t = refl
  path_none (Quoted false) t = refl
  path_none (End domain) t = end_none k domain
  path_none Domain t = refl
  path_none Literal t = refl
  path_none Closed t = absurd t
  path_none Off t = refl

  pub path_closed : (l : List ℕ) → path_rest k Closed l ≡ k l
  unfolding path_rest
  path_closed l = refl

  pub path_start_lem : (mail : Bool) (l : List ℕ) → path_rest k (Start mail) l ≡ ends (path_scan mail l) l (λ r. eqb (get_or r 0 0) 62 && k (drop 1 r))
  unfolding path_rest
  path_start_lem mail l = refl
